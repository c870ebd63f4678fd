-- The chapter "Overload rules": what is asked of two declarations of a set, by the four cases in
-- their order. The code asks one case after another.
use Rattle.std.specs.Prelude.{◌≡◌, ◌≢◌, ℕ, true, List, slice_get, Some}
use Rattle.fort_base.specs.declared.rules.TheConstants.{SAME_PARAMETERS, RESULT_NOT_BELOW, NO_MEET, MEET_NOT_DECLARED, ARROW_OVERLAP, TOO_WIDE}
use Rattle.fort_base.specs.declared.ids.TypeId.{TypeId}
use Rattle.fort_base.specs.declared.ty.Ty.{Ty, out-Ty}
use Rattle.fort_base.specs.declared.ty.Ty.TheOpen.{Ty-F}
use Rattle.fort_types.specs.Hierarchy.{DeclaredTypes}
use Rattle.fort_types.specs.Types.{Below, Apart}
use Rattle.fort_meet.specs.Meets.{IsCommon}
use Rattle.fort_types_sets.specs.declared.member.Member.{Member}
use Rattle.fort_types_sets.specs.declared.member.MemberSet.{MemberSet}
use Rattle.fort_types_sets.specs.Applicable.{Somewhere, IsApplicable, IsMoreSpecific}
use Rattle.fort_types_sets.specs.Meets.{HasNone, ArrowsClash, IsChoice, AreTooMany}

-- No declared type is below both receivers, the first parameters.
abbrev pub AreStrangers : DeclaredTypes → List Ty → List Ty → Type 0
AreStrangers h xs ys = (x y : Ty) (i j : TypeId) → slice_get xs 0 ≡ Some x → slice_get ys 0 ≡ Some y
    → out-Ty x ≡ Ty-F.Named i → out-Ty y ≡ Ty-F.Named j
    → (k : ℕ) → IsCommon h i.0 j.0 k → ⊥

-- Two declarations never meet: some position is apart, or they are dotted methods and no declared
-- type is below both receivers.
pub data NeverMeet (h : DeclaredTypes) (s : MemberSet) (p q : Member) : Type 0 where
  apart : Somewhere (Apart h) p.parameters q.parameters → NeverMeet h s p q
  strangers : s.dotted ≡ true → AreStrangers h p.parameters q.parameters → NeverMeet h s p q

-- The first three cases say nothing of two declarations.
pub record AreUnordered (h : DeclaredTypes) (s : MemberSet) (p q : Member) : Type 0 where
  pub unequal : p.parameters ≢ q.parameters
  pub may_meet : NeverMeet h s p q → ⊥
  pub not_first : IsMoreSpecific h p q → ⊥
  pub not_second : IsMoreSpecific h q p → ⊥

-- Types are covered for two declarations: some declaration of the set is more specific than both
-- and applicable to the types.
abbrev pub AreCovered : DeclaredTypes → List Member → Member → Member → List Ty → Type 0
AreCovered h members p q types = (k : ℕ) × (r : Member) × (slice_get members k ≡ Some r)
    × IsMoreSpecific h r p × IsMoreSpecific h r q × IsApplicable h r types

-- Each choice of one meet for each position is covered.
abbrev pub ChoicesCovered : DeclaredTypes → List Member → Member → Member → Type 0
ChoicesCovered h members p q = (types : List Ty) → IsChoice h p.parameters q.parameters types
    → AreCovered h members p q types

-- Two declarations of a set pass.
pub data Passes (h : DeclaredTypes) (s : MemberSet) (p q : Member) : Type 0 where
  aside : p.parameters ≢ q.parameters → NeverMeet h s p q → Passes h s p q
  ordered : p.parameters ≢ q.parameters → IsMoreSpecific h p q → Below h p.result q.result
      → Passes h s p q
  reversed : p.parameters ≢ q.parameters → IsMoreSpecific h q p → Below h q.result p.result
      → Passes h s p q
  met : AreUnordered h s p q → (Somewhere (ArrowsClash h) p.parameters q.parameters → ⊥)
      → (Somewhere (HasNone h) p.parameters q.parameters → ⊥)
      → (AreTooMany h p.parameters q.parameters → ⊥) → ChoicesCovered h s.members p q
      → Passes h s p q

-- Two declarations of a set break a rule.
pub data Breaks (h : DeclaredTypes) (s : MemberSet) (p q : Member) (rule : ℕ) : Type 0 where
  same_parameters : rule ≡ SAME_PARAMETERS.0 → p.parameters ≡ q.parameters → Breaks h s p q rule
  first_result : rule ≡ RESULT_NOT_BELOW.0 → p.parameters ≢ q.parameters → (NeverMeet h s p q → ⊥)
      → IsMoreSpecific h p q → (Below h p.result q.result → ⊥) → Breaks h s p q rule
  second_result : rule ≡ RESULT_NOT_BELOW.0 → p.parameters ≢ q.parameters → (NeverMeet h s p q → ⊥)
      → IsMoreSpecific h q p → (Below h q.result p.result → ⊥) → Breaks h s p q rule
  arrow_overlap : rule ≡ ARROW_OVERLAP.0 → AreUnordered h s p q
      → Somewhere (ArrowsClash h) p.parameters q.parameters → Breaks h s p q rule
  no_meet : rule ≡ NO_MEET.0 → AreUnordered h s p q
      → (Somewhere (ArrowsClash h) p.parameters q.parameters → ⊥)
      → Somewhere (HasNone h) p.parameters q.parameters → Breaks h s p q rule
  too_wide : rule ≡ TOO_WIDE.0 → AreUnordered h s p q
      → (Somewhere (ArrowsClash h) p.parameters q.parameters → ⊥)
      → (Somewhere (HasNone h) p.parameters q.parameters → ⊥)
      → AreTooMany h p.parameters q.parameters → Breaks h s p q rule
  not_declared : rule ≡ MEET_NOT_DECLARED.0 → AreUnordered h s p q
      → (Somewhere (ArrowsClash h) p.parameters q.parameters → ⊥)
      → (Somewhere (HasNone h) p.parameters q.parameters → ⊥)
      → (AreTooMany h p.parameters q.parameters → ⊥)
      → (types : List Ty) → IsChoice h p.parameters q.parameters types
      → (AreCovered h s.members p q types → ⊥) → Breaks h s p q rule
