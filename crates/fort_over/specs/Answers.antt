-- The chapter "Overload rules": what the members of a component are, when they keep the rules, and
-- which broken rule is reported. The code leaves 507 for the end.
use Rattle.std.specs.Prelude.{◌≡◌, ◌⊎◌, ℕ, None, slice_get, get_or, Some}
use Rattle.fort_base.specs.declared.rules.TheConstants.{ABSTRACT_NOT_COVERED}
use Rattle.fort_base.specs.declared.ids.TypeId.{TypeId}
use Rattle.fort_base.specs.declared.refusal.CheckFault.{CheckFault}
use Rattle.fort_base.specs.declared.refusal.CheckFault.TheVariants as a_fault
use Rattle.fort_base.specs.declared.refusal.Place.{Place}
use Rattle.fort_types.specs.Hierarchy.{DeclaredTypes, Sound}
use Rattle.fort_types.specs.Table.{HasRows}
use Rattle.fort_hier.specs.declared.accepted.Hierarchy.{Hierarchy}
use Rattle.fort_base.specs.Places.{IsEarliest}
use Rattle.fort_types_sets.specs.declared.member.Member.{Member}
use Rattle.fort_types_sets.specs.declared.member.MemberSet.{MemberSet}
use Rattle.fort_types_sets.specs.declared.member.Members.{Members}
use Rattle.fort_types_sets.specs.Coverage.{IsAbstractOf, IsObjectBelow, IsCovered}
use Rattle.fort_types_sets.specs.Leaves.{leaves_of}
use Rattle.fort_types_sets.specs.Rules.{StandsAt, IsWellMade, KeepsRules}
use Rattle.fort_over.specs.Standing.{standing, Spot, pairs_of, IsFirstBroken, NoneBroken}

-- A component's members are over its declared types, which are an accepted hierarchy with these
-- rows.
pub record AreOver (h : DeclaredTypes) (hierarchy : Hierarchy) (m : Members) : Type 0 where
  pub sound : Sound h
  pub rows : HasRows h hierarchy.table
  pub objects : m.objects ≡ leaves_of h
  pub made : (n : ℕ) (s : MemberSet) → slice_get m.sets n ≡ Some s → IsWellMade h s

-- Each set keeps the overload rules.
abbrev pub KeepAllRules : DeclaredTypes → Members → Type 0
KeepAllRules h m = (n : ℕ) (s : MemberSet) → slice_get m.sets n ≡ Some s → KeepsRules h s

-- Some abstract declaration of a set isn't covered for an object below its type, and this is the
-- object's place.
pub record IsUncovered (h : DeclaredTypes) (m : Members) (place : Place) : Type 0 where
  pub n : ℕ
  pub i : ℕ
  pub at : ℕ
  pub s : MemberSet
  pub d : Member
  pub t : TypeId
  pub o : TypeId
  pub set_is : slice_get m.sets n ≡ Some s
  pub stands : StandsAt s i d
  pub is_abstract : IsAbstractOf d at t
  pub is_below : IsObjectBelow h o t
  pub uncovered : IsCovered h s d at o → ⊥
  pub place_is : place ≡ standing (get_or m.places o.0 None)

-- The first pair of all sets that breaks a rule, at the place of its later declaration.
abbrev pub IsPairFault : DeclaredTypes → Members → ℕ → Place → Type 0
IsPairFault h m rule place = (spot : Spot) × (place ≡ spot.later_place)
    × IsFirstBroken h (pairs_of m.sets) rule spot

-- Where no pair breaks a rule, the earliest object that an abstract declaration isn't covered for.
abbrev pub IsObjectFault : DeclaredTypes → Members → ℕ → Place → Type 0
IsObjectFault h m rule place = (rule ≡ ABSTRACT_NOT_COVERED.0) × NoneBroken h (pairs_of m.sets)
    × IsEarliest (IsUncovered h m) place

-- The rule that is reported, with its place: a pair's, or 507.
abbrev pub IsReported : DeclaredTypes → Members → ℕ → Place → Type 0
IsReported h m rule place = IsPairFault h m rule place ⊎ IsObjectFault h m rule place

-- A refusal names the reported rule and its place; want of memory needs no cause.
abbrev pub IsFault : DeclaredTypes → Members → CheckFault → Type 0
IsFault h m (a_fault.Refused rule place) = IsReported h m rule.0 place
IsFault h m a_fault.Memory = Unit {0}
