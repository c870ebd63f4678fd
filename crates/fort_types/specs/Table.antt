-- The chapter "Types": the two rows of each declared type. The code keeps them as lists of bits.
use Rattle.std.specs.Prelude.{◌≡◌, ◌<◌, ◌↔◌, ℕ, Bool, false, IsTrue, List, length, slice_get, Some, unwrap_or, option_and_then}
use Rattle.fort_base.specs.declared.table.TypeTable.{TypeTable}
use Rattle.fort_types.specs.Hierarchy.{DeclaredTypes, Path, DeclaredApart}

-- Whether a row has its place set; past the rows and past their ends no place is.
abbrev pub is_set : List (List Bool) → ℕ → ℕ → Bool
is_set rows i j = unwrap_or (option_and_then (λ row. slice_get row j) (slice_get rows i)) false

-- There are `n` rows of `n` places each, and a place is set exactly where the relation holds.
pub record IsExact (R : ℕ → ℕ → Type 0) (n : ℕ) (rows : List (List Bool)) : Type 0 where
  pub high : length rows ≡ n
  pub wide : (i : ℕ) (row : List Bool) → slice_get rows i ≡ Some row → length row ≡ n
  pub sets : (i j : ℕ) → i < n → j < n → IsTrue (is_set rows i j) ↔ R i j

-- The table has the rows of this hierarchy.
pub record HasRows (h : DeclaredTypes) (table : TypeTable) : Type 0 where
  pub below : IsExact (Path h) (length h) table.below
  pub apart : IsExact (DeclaredApart h) (length h) table.apart
