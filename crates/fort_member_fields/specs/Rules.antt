-- The chapter "Members", its two rules. The code asks 451 of each type, and then 452 of each field
-- of a trait and each type below it.
use Rattle.std.specs.Prelude.{◌≡◌, ◌≢◌, ◌⊎◌, ◌<◌, ◌≤◌, ◌+◌, ◌-◌, ℕ, List, length, slice_get, Some}
use Rattle.fort_base.specs.declared.rules.TheConstants.{DUPLICATE_MEMBER, FIELD_NOT_BELOW}
use Rattle.fort_base.specs.declared.refusal.CheckFault.{CheckFault}
use Rattle.fort_base.specs.declared.refusal.CheckFault.TheVariants as a_fault
use Rattle.fort_base.specs.declared.refusal.Place.{Place}
use Rattle.fort_tree.specs.declared.declarations.Component.{Component}
use Rattle.fort_types.specs.Hierarchy.{DeclaredTypes, Extends, Trait, Leaf, Path}
use Rattle.fort_types.specs.Types.{Below}
use Rattle.fort_base.specs.Places.{IsEarliest}
use Rattle.fort_hier.specs.Hierarchies.{declares, places_of}
use Rattle.fort_types_sets.specs.declared.field.Field.{Field}
use Rattle.fort_member_fields.specs.Own.{own_fields}
use Rattle.fort_member_fields.specs.Inherited.{Declares, DeclaresNone, Has}

-- ---- 451

-- A field of a list has the name of one before it, and this is its place.
abbrev pub IsRepeated : List Field → Place → Type 0
IsRepeated fs place = (i j : ℕ) × (f : Field) × (g : Field) × (i < j) × (slice_get fs i ≡ Some f)
    × (slice_get fs j ≡ Some g) × (f.name ≡ g.name) × (place ≡ g.place)

-- A type declares two fields of one name, and this is the later one's place.
abbrev pub DeclaresTwice : List (List Field) → Place → Type 0
DeclaresTwice own place = (a : ℕ) × (fs : List Field) × (slice_get own a ≡ Some fs)
    × IsRepeated fs place

-- A trait that declares no field of a name gets it from two types that it extends, with different
-- types.
abbrev pub GetsTwo : DeclaredTypes → List (List Field) → ℕ → Type 0
GetsTwo h own a = Trait h a × (b c : ℕ) × (f g : Field) × Extends h a b × Extends h a c × (b ≢ c)
    × Has h own b f × Has h own c g
    × (f.name ≡ g.name) × (f.ty ≢ g.ty) × DeclaresNone own a f.name

-- ---- 452

-- A field is missing in an object.
abbrev pub IsMissing : DeclaredTypes → List (List Field) → ℕ → Field → Type 0
IsMissing h own a f = Leaf h a × DeclaresNone own a f.name

-- A field is declared again with a type that isn't below its type.
abbrev pub IsWider : DeclaredTypes → List (List Field) → ℕ → Field → Type 0
IsWider h own a f = (g : Field) × Declares own a g × (g.name ≡ f.name) × (Below h g.ty f.ty → ⊥)

-- A field of a trait is missing in an object below the trait, or declared again below it with a
-- type that isn't below.
abbrev pub LacksField : DeclaredTypes → List (List Field) → ℕ → Type 0
LacksField h own a = (t : ℕ) × (f : Field) × Trait h t × Path h a t × Declares own t f
    × (IsMissing h own a f ⊎ IsWider h own a f)

-- ---- which rule is broken, and where

-- A type has a property, and this is the place of its name; the places are those of the last types.
abbrev pub AtName : DeclaredTypes → List Place → (ℕ → Type 0) → Place → Type 0
AtName h places P place = (k : ℕ) × (slice_get places k ≡ Some place)
    × P (length h - length places + k)

-- 451 is broken at a place.
abbrev pub IsDuplicate : DeclaredTypes → List (List Field) → List Place → Place → Type 0
IsDuplicate h own places place = DeclaresTwice own place ⊎ AtName h places (GetsTwo h own) place

-- 452 is broken at a place.
abbrev pub IsNotBelow : DeclaredTypes → List (List Field) → List Place → Place → Type 0
IsNotBelow h own places place = AtName h places (LacksField h own) place

-- A component whose types are an accepted hierarchy breaks a rule at a place.
pub data Broken (c : Component) (rule : ℕ) (place : Place) : Type 0 where
  duplicate : rule ≡ DUPLICATE_MEMBER.0
      → IsDuplicate (declares c) (own_fields c) (places_of c) place → Broken c rule place
  not_below : rule ≡ FIELD_NOT_BELOW.0 → IsNotBelow (declares c) (own_fields c) (places_of c) place
      → Broken c rule place

-- A component breaks a rule, there at the earliest, and no rule of a lower number.
pub record IsReported (c : Component) (rule : ℕ) (place : Place) : Type 0 where
  pub earliest : IsEarliest (Broken c rule) place
  pub lowest : (other : ℕ) (at : Place) → Broken c other at → rule ≤ other

-- A refusal names the reported rule and its place; want of memory needs no cause.
abbrev pub IsFault : Component → CheckFault → Type 0
IsFault c (a_fault.Refused rule place) = IsReported c rule.0 place
IsFault c a_fault.Memory = Unit {0}

-- A refusal by 451 at its earliest place; or by 452 at its earliest place, where 451 is broken
-- nowhere.
abbrev pub IsFieldRefusal : DeclaredTypes → List (List Field) → List Place → CheckFault → Type 0
IsFieldRefusal h own places (a_fault.Refused rule place) =
    ((rule.0 ≡ DUPLICATE_MEMBER.0) × IsEarliest (IsDuplicate h own places) place)
    ⊎ ((rule.0 ≡ FIELD_NOT_BELOW.0) × IsEarliest (IsNotBelow h own places) place
    × ((at : Place) → IsDuplicate h own places at → ⊥))
IsFieldRefusal h own places a_fault.Memory = Unit {0}
