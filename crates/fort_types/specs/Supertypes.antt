-- The chapter "Types": what the code has found so far on the way up from a type, as a row of marks
-- and the list of what is marked.
use Rattle.std.specs.Prelude.{◌≡◌, ◌<◌, ◌+◌, ◌↔◌, ◌⊎◌, ℕ, Bool, true, false, IsTrue, List, [], ◌∷◌, ◌++◌, length, slice_get, slice_set, Some, unwrap_or, Contains}
use Rattle.fort_types.specs.Hierarchy.{DeclaredTypes, Extends, Path}
use Rattle.fort_types.specs.Square.{falses}

-- The mark at a place of a row, and none past its end.
abbrev pub mark : List Bool → ℕ → Bool
mark row j = unwrap_or (slice_get row j) false

abbrev pub IsMarked : List Bool → ℕ → Type 0
IsMarked row j = IsTrue (mark row j)

-- A look at a number: nothing comes of it where the number is marked or past the row, else it is
-- marked and listed.
pub data Reaches (b : ℕ) (row new : List Bool) (found more : List ℕ) : Type 0 where
  known : (b < length row → IsMarked row b) → new ≡ row → more ≡ found
      → Reaches b row new found more
  fresh : b < length row → mark row b ≡ false → new ≡ slice_set row b true → more ≡ found ++ b ∷ []
      → Reaches b row new found more

-- A look at the first `n` numbers of a list, one after another.
pub record ReachesEach (xs : List ℕ) (n : ℕ) (row new : List Bool)
    (found more : List ℕ) : Type 0 where
  pub long : length new ≡ length row
  pub kept : (j : ℕ) → IsMarked row j → IsMarked new j
  pub front : (k x : ℕ) → slice_get found k ≡ Some x → slice_get more k ≡ Some x
  pub count : falses new + length more ≡ falses row + length found
  pub each : (k b : ℕ) → k < n → slice_get xs k ≡ Some b → b < length row → IsMarked new b
  pub source : (j : ℕ) → IsMarked new j → IsMarked row j ⊎ Contains xs j
  pub listed : (j : ℕ) → IsMarked new j → IsMarked row j ⊎ Contains more j
  pub marked : (b : ℕ) → Contains more b → Contains found b ⊎ IsMarked new b

-- What is found on the way up from type `a`, where the first `done` of the list have been looked
-- at.
pub record Found (h : DeclaredTypes) (a : ℕ) (row : List Bool) (found : List ℕ)
    (done : ℕ) : Type 0 where
  pub long : length row ≡ length h
  pub start : IsMarked row a
  pub sound : (j : ℕ) → IsMarked row j → Path h a j
  pub listed : (j : ℕ) → IsMarked row j → Contains found j
  pub marked : (b : ℕ) → Contains found b → IsMarked row b
  pub closed : (k c b : ℕ) → k < done → slice_get found k ≡ Some c → Extends h c b → IsMarked row b

-- The row has the marks of one type's relation.
pub record IsRow (R : ℕ → Type 0) (n : ℕ) (row : List Bool) : Type 0 where
  pub long : length row ≡ n
  pub marks : (j : ℕ) → j < n → IsMarked row j ↔ R j

-- The rows are those of the first types.
pub record AreRows (h : DeclaredTypes) (rows : List (List Bool)) : Type 0 where
  pub each : (i : ℕ) (row : List Bool) → slice_get rows i ≡ Some row
      → IsRow (Path h i) (length h) row
