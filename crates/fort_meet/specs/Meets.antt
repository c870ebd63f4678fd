-- The chapter "Types": the meets of two declared types. The code reads the rows of below.
use Rattle.std.specs.Prelude.{◌≡◌, ◌<◌, ◌↔◌, ℕ, List, length, Contains}
use Rattle.std.specs.List.{AllPairs}
use Rattle.fort_base.specs.declared.ids.TypeId.{TypeId}
use Rattle.fort_types.specs.Hierarchy.{DeclaredTypes, Path}

-- A declared type is below both of two types.
abbrev pub IsCommon : DeclaredTypes → ℕ → ℕ → ℕ → Type 0
IsCommon h a b m = (m < length h) × Path h m a × Path h m b

-- A declared type is a meet of two types: it is below both, and no other declared type below both
-- is above it.
pub record IsMeet (h : DeclaredTypes) (a b m : ℕ) : Type 0 where
  pub common : IsCommon h a b m
  pub highest : (k : ℕ) → IsCommon h a b k → Path h m k → k ≡ m

-- A list has exactly the meets of two types, in order of number.
pub record AreMeets (h : DeclaredTypes) (a b : ℕ) (list : List TypeId) : Type 0 where
  pub exactly : (m : TypeId) → Contains list m ↔ IsMeet h a b m.0
  pub rising : AllPairs (λ (x y : TypeId). x.0 < y.0) list
