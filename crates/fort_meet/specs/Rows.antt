-- The chapter "Types": what the code finds in the rows of below on its way to the meets.
use Rattle.std.specs.Prelude.{◌≡◌, ◌≢◌, ◌<◌, ℕ, Bool, IsTrue, List, Some, slice_get, Contains}
use Rattle.std.specs.List.{AllPairs}
use Rattle.fort_base.specs.declared.ids.TypeId.{TypeId}
use Rattle.fort_types.specs.Table.{is_set}

-- The row of a type has both places set.
abbrev pub IsInBoth : List (List Bool) → ℕ → ℕ → ℕ → Type 0
IsInBoth rows a b m = IsTrue (is_set rows m a) × IsTrue (is_set rows m b)

-- Another type of a list has its place set in the row of a type.
abbrev pub IsPassed : List (List Bool) → List TypeId → TypeId → Type 0
IsPassed rows list m = (k : TypeId) × Contains list k × (k ≢ m) × IsTrue (is_set rows m.0 k.0)

-- Numbers rise.
abbrev pub IsRising : List TypeId → Type 0
IsRising = AllPairs (λ (x y : TypeId). x.0 < y.0)

-- A list has exactly the numbers below a bound that have a property, in order.
pub record Lists (P : ℕ → Type 0) (to : ℕ) (list : List TypeId) : Type 0 where
  pub inside : (m : TypeId) → Contains list m → m.0 < to
  pub only : (m : TypeId) → Contains list m → P m.0
  pub each : (m : TypeId) → m.0 < to → P m.0 → Contains list m
  pub rising : IsRising list

-- A list has exactly those of the first numbers of another that no other one there is above, in
-- their order.
pub record IsHighest (rows : List (List Bool)) (common : List TypeId) (to : ℕ)
    (list : List TypeId) : Type 0 where
  pub among : (m : TypeId) → Contains list m → (k : ℕ) × (k < to) × (slice_get common k ≡ Some m)
  pub only : (m : TypeId) → Contains list m → IsPassed rows common m → ⊥
  pub each : (k : ℕ) (m : TypeId) → k < to → slice_get common k ≡ Some m
      → (IsPassed rows common m → ⊥) → Contains list m
  pub rising : IsRising common → IsRising list
