-- The chapter "Members", fields: which fields a type has, its own ones and inherited ones. The code
-- asks the types from the top of the hierarchy down.
use Rattle.std.specs.Prelude.{◌≡◌, ◌≤◌, ℕ, List, [], ◌∷◌, ◌++◌, length, slice_get, Some, Contains}
use Rattle.fort_base.specs.declared.ids.NameId.{NameId}
use Rattle.fort_types.specs.declared.hierarchy.DeclaredType.{DeclaredType}
use Rattle.fort_types.specs.declared.hierarchy.TypeKind.TheVariants as a_kind
use Rattle.fort_types.specs.Hierarchy.{DeclaredTypes, Extends, Trait, Leaf}
use Rattle.fort_types_sets.specs.declared.field.Field.{Field}
use Rattle.fort_member_fields.specs.Walks.{IsInOrder}

-- A type declares a field.
abbrev pub Declares : List (List Field) → ℕ → Field → Type 0
Declares own a f = (fs : List Field) × (slice_get own a ≡ Some fs) × Contains fs f

-- A type declares no field of a name.
abbrev pub DeclaresNone : List (List Field) → ℕ → NameId → Type 0
DeclaresNone own a name = (f : Field) → Declares own a f → f.name ≡ name → ⊥

-- A type has the fields that it declares; a trait also has those of the types that it extends,
-- where it doesn't declare one of the name.
pub data Has (h : DeclaredTypes) (own : List (List Field)) : ℕ → Field → Type 0 where
  declared : {a : ℕ} {f : Field} → Declares own a f → Has h own a f
  inherited : {a b : ℕ} {f : Field} → Trait h a → DeclaresNone own a f.name → Extends h a b
      → Has h own b f → Has h own a f

mutual
  -- The list of the fields of a type in their order: those that it declares, and for a trait behind
  -- them those of the types that it extends, as these stand in its head, but for fields of a name
  -- that it declares; of one name and type the first alone.
  pub data IsListed (h : DeclaredTypes) (own : List (List Field)) : ℕ → List Field → Type 0 where
    of_leaf : {a : ℕ} {fs : List Field} → Leaf h a → slice_get own a ≡ Some fs → IsListed h own a fs
    of_trait : {a : ℕ} {fs : List Field} (d : DeclaredType) (ds further : List Field)
        → slice_get h a ≡ Some d → d.kind ≡ a_kind.Trait → slice_get own a ≡ Some ds
        → AreFurther h own d.extends further → IsInOrder ds further fs → IsListed h own a fs

  -- The fields of types one after another; a number of no declared type, which is that of `Any`,
  -- has none.
  pub data AreFurther (h : DeclaredTypes) (own : List (List Field)) : List ℕ → List Field
      → Type 0 where
    no_more : AreFurther h own [] []
    of_type : {b : ℕ} {bs : List ℕ} {fs further all : List Field} → all ≡ fs ++ further
        → IsListed h own b fs → AreFurther h own bs further → AreFurther h own (b ∷ bs) all
    of_any : {b : ℕ} {bs : List ℕ} {further : List Field} → length h ≤ b
        → AreFurther h own bs further → AreFurther h own (b ∷ bs) further

-- No two fields of a list have one name.
abbrev pub EachOnce : List Field → Type 0
EachOnce fs = (i j : ℕ) (f g : Field) → slice_get fs i ≡ Some f → slice_get fs j ≡ Some g
    → f.name ≡ g.name → i ≡ j

-- The fields of a type that declares these: they stand first in their order; behind them stand the
-- inherited ones, in theirs; each name that the type has a field of stands once.
pub record AreFields (h : DeclaredTypes) (own : List (List Field)) (a : ℕ)
    (fs : List Field) : Type 0 where
  pub first : (ds : List Field) → slice_get own a ≡ Some ds
      → (rest : List Field) × (fs ≡ ds ++ rest)
  pub has : (f : Field) → Contains fs f → Has h own a f
  pub all : (f : Field) → Has h own a f
      → (g : Field) × Contains fs g × (g.name ≡ f.name) × (g.ty ≡ f.ty)
  pub once : EachOnce fs
  pub listed : IsListed h own a fs

-- The fields of each type, by the types' numbers.
pub record AreAllFields (h : DeclaredTypes) (own all : List (List Field)) : Type 0 where
  pub number : length all ≡ length h
  pub each : (a : ℕ) (fs : List Field) → slice_get all a ≡ Some fs → AreFields h own a fs
