-- The chapter "Members", fields: what the code knows of the fields of each type, where 451 may
-- still be broken: a name may stand with several types.
use Rattle.std.specs.Prelude.{◌≡◌, ◌<◌, ◌++◌, ℕ, List, length, slice_get, Some, Contains}
use Rattle.fort_types.specs.Hierarchy.{DeclaredTypes, Leaf}
use Rattle.fort_types_sets.specs.declared.field.Field.{Field}
use Rattle.fort_member_fields.specs.Inherited.{DeclaresNone, Has, IsListed}

-- A list of the fields of a type that declares these: they stand first, and behind them fields of
-- names that aren't declared; each is one that the type has, and each that it has is there by name
-- and type; of inherited ones of one name and one type there is one; and they stand in their order.
pub record HasGathered (h : DeclaredTypes) (own : List (List Field)) (a : ℕ)
    (fs : List Field) : Type 0 where
  pub first : (ds : List Field) → slice_get own a ≡ Some ds
      → (rest : List Field) × (fs ≡ ds ++ rest)
      × ((f : Field) → Contains rest f → DeclaresNone own a f.name)
  pub has : (f : Field) → Contains fs f → Has h own a f
  pub all : (f : Field) → Has h own a f
      → (g : Field) × Contains fs g × (g.name ≡ f.name) × (g.ty ≡ f.ty)
  pub differ : (i j : ℕ) (f g : Field) → slice_get fs i ≡ Some f → slice_get fs j ≡ Some g
      → f.name ≡ g.name → f.ty ≡ g.ty → DeclaresNone own a f.name → i ≡ j
  pub listed : IsListed h own a fs

-- The lists of all types, as far as they are known: those of objects and leaves, and of the traits
-- lower than a height and, of that height, those before a number.
pub record HasTo (h : DeclaredTypes) (own : List (List Field)) (heights : List ℕ)
    (height before : ℕ) (all : List (List Field)) : Type 0 where
  pub number : length all ≡ length h
  pub leaves : (a : ℕ) (fs : List Field) → slice_get all a ≡ Some fs → Leaf h a
      → HasGathered h own a fs
  pub lower : (a n : ℕ) (fs : List Field) → slice_get all a ≡ Some fs → slice_get heights a ≡ Some n
      → n < height → HasGathered h own a fs
  pub level : (a : ℕ) (fs : List Field) → slice_get all a ≡ Some fs
      → slice_get heights a ≡ Some height → a < before → HasGathered h own a fs

-- The lists of all types.
pub record HasAll (h : DeclaredTypes) (own all : List (List Field)) : Type 0 where
  pub number : length all ≡ length h
  pub each : (a : ℕ) (fs : List Field) → slice_get all a ≡ Some fs → HasGathered h own a fs
