-- The chapter "Members": what the code's walks over lists of fields find, and what it keeps of the
-- fields of one trait.
use Rattle.std.specs.Prelude.{◌≡◌, ◌≢◌, ◌⊎◌, ◌<◌, ◌≤◌, ◌++◌, ◌↔◌, nat_eq, ℕ, Bool, IsTrue, List, [], ◌∷◌, filter, length, slice_get, get_or, Some, None, Contains}
use Rattle.indexmap.specs.IndexMap.{get}
use Rattle.indexmap.specs.IndexSet.{contains, IndexSet}
use Rattle.fort_base.specs.declared.ids.NameId.{NameId}
use Rattle.fort_types.specs.declared.hierarchy.DeclaredType.{DeclaredType}
use Rattle.fort_types.specs.declared.hierarchy.TypeKind.TheVariants as a_kind
use Rattle.fort_types.specs.Hierarchy.{DeclaredTypes, Extends}
use Rattle.fort_types.specs.Table.{is_set}
use Rattle.fort_types.specs.Types.{Below}
use Rattle.fort_types_sets.specs.declared.field.Field.{Field}
use Rattle.fort_member_fields.specs.declared.gathering.Gathering.{Gathering}

-- Some item of a list has a property.
abbrev pub SomeIn : {X : Type 0} → (X → Type 0) → List X → Type 0
SomeIn {X} P xs = (k : ℕ) × (x : X) × (slice_get xs k ≡ Some x) × P x

-- The fields of a type; none past the lists.
abbrev pub fields_of : List (List Field) → ℕ → List Field
fields_of all a = get_or all a []

-- Some field of a list has a name.
abbrev pub HasFieldNamed : List Field → NameId → Type 0
HasFieldNamed fs name = SomeIn (λ f. f.name ≡ name) fs

-- Two fields have one name and one type.
abbrev pub IsLike : Field → Field → Type 0
IsLike f g = (g.name ≡ f.name) × (g.ty ≡ f.ty)

-- The field at a place has a field's name and type.
abbrev pub LikeAt : List Field → ℕ → Field → Type 0
LikeAt fs at f = (g : Field) × (slice_get fs at ≡ Some g) × IsLike f g

-- Two fields have one name and different types.
abbrev pub IsUnlike : Field → Field → Type 0
IsUnlike f g = (g.name ≡ f.name) × (g.ty ≢ f.ty)

-- ---- 451

-- A field's name isn't declared, and a field of a list has that name and a different type.
abbrev pub HasOther : List Field → List Field → Field → Type 0
HasOther own gs f = (HasFieldNamed own f.name → ⊥) × SomeIn (IsUnlike f) gs

-- Two lists have fields of one name and different types, of a name that isn't declared.
abbrev pub Differ : List Field → List Field → List Field → Type 0
Differ own fs gs = SomeIn (HasOther own gs) fs

-- Two types are not one, and have such fields.
abbrev pub DifferAt : List Field → List (List Field) → ℕ → ℕ → Type 0
DifferAt own all b c = (b ≢ c) × Differ own (fields_of all b) (fields_of all c)

-- Another type of a list has such a field.
abbrev pub DiffersFrom : List Field → List (List Field) → List ℕ → ℕ → Type 0
DiffersFrom own all extends b = SomeIn (DifferAt own all b) extends

-- Two types of a list have such fields.
abbrev pub SomeDiffer : List Field → List (List Field) → List ℕ → Type 0
SomeDiffer own all extends = SomeIn (DiffersFrom own all extends) extends

-- ---- 452

-- The second is declared again, with a type that isn't below.
abbrev pub IsWiderThan : DeclaredTypes → Field → Field → Type 0
IsWiderThan h f g = (g.name ≡ f.name) × (Below h g.ty f.ty → ⊥)

-- A field is missing, where it must be there, or declared again with a type that isn't below.
abbrev pub Lacks : DeclaredTypes → Bool → List Field → Field → Type 0
Lacks h must own f = (IsTrue must × (HasFieldNamed own f.name → ⊥)) ⊎ SomeIn (IsWiderThan h f) own

-- A field of one type, which is a trait above, is lacking.
abbrev pub LacksOf : DeclaredTypes → List (List Bool) → Bool → List (List Field) → ℕ → DeclaredType
    → ℕ → Type 0
LacksOf h rows must own a d t = (d.kind ≡ a_kind.Trait) × IsTrue (is_set rows a t)
    × SomeIn (Lacks h must (fields_of own a)) (fields_of own t)

-- ---- names that stood so far

-- The set has exactly the names of these fields.
pub record HoldsNames {S : Type 0} (before : List Field) (seen : IndexSet ℕ S) : Type 0 where
  pub knows : (name : NameId) → IsTrue (contains nat_eq seen name.0) ↔ HasFieldNamed before name

-- ---- heights

-- How many bits of a row are set.
abbrev pub count_of : List Bool → ℕ
count_of row = length (filter (λ b. b) row)

-- A number for each type, at most the number of types, that falls along each `extends`.
pub record AreHeights (h : DeclaredTypes) (heights : List ℕ) : Type 0 where
  pub number : length heights ≡ length h
  pub bounded : (a n : ℕ) → slice_get heights a ≡ Some n → n ≤ length h
  pub falls : (a b m n : ℕ) → Extends h a b → slice_get heights a ≡ Some m
      → slice_get heights b ≡ Some n → n < m

-- ---- the fields of one trait

-- The map has each name of the list.
pub record KnowsNames (g : Gathering) : Type 0 where
  pub knows : (f : Field) → Contains g.fields f → get nat_eq g.first f.name.0 ≢ None

-- The fields that a trait declares, and behind them further ones as they come: each whose name
-- isn't declared and that isn't there by name and type.
pub data IsInOrder (own : List Field) : List Field → List Field → Type 0 where
  begins : {further fs : List Field} → further ≡ [] → fs ≡ own → IsInOrder own further fs
  passes : {further more fs : List Field} (x : Field) → more ≡ further ++ x ∷ []
      → HasFieldNamed own x.name ⊎ SomeIn (IsLike x) fs → IsInOrder own further fs
      → IsInOrder own more fs
  adds : {further more fs gs : List Field} (x : Field) → more ≡ further ++ x ∷ []
      → gs ≡ fs ++ x ∷ [] → (HasFieldNamed own x.name ⊎ SomeIn (IsLike x) fs → ⊥)
      → IsInOrder own further fs → IsInOrder own more gs

-- What is put together of the fields that a trait declares and of further ones: the declared ones
-- stand first, and behind them fields of names that aren't declared; each of these is a further
-- one; each further one of such a name is there by name and type; and of one such name and type
-- there is one, the first.
pub record Gathers (own further fs : List Field) : Type 0 where
  pub first : (rest : List Field) × (fs ≡ own ++ rest)
      × ((f : Field) → Contains rest f → HasFieldNamed own f.name → ⊥)
  pub from : (f : Field) → Contains fs f
      → Contains own f ⊎ (Contains further f × (HasFieldNamed own f.name → ⊥))
  pub all : (f : Field) → Contains further f → (HasFieldNamed own f.name → ⊥) → SomeIn (IsLike f) fs
  pub differ : (i j : ℕ) (f g : Field) → slice_get fs i ≡ Some f → slice_get fs j ≡ Some g
      → IsLike f g → (HasFieldNamed own f.name → ⊥) → i ≡ j
  pub order : IsInOrder own further fs
