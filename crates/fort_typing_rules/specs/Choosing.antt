-- The chapter "Overload rules": what a set has for the types of a call. The code walks the set
-- twice.
use Rattle.std.specs.Prelude.{ℕ, List}
use Rattle.fort_base.specs.declared.ty.Ty.{Ty}
use Rattle.fort_types.specs.Hierarchy.{DeclaredTypes}
use Rattle.fort_types_sets.specs.declared.member.Member.{Member}
use Rattle.fort_types_sets.specs.declared.member.MemberSet.{MemberSet}
use Rattle.fort_types_sets.specs.Applicable.{IsApplicable}
use Rattle.fort_types_sets.specs.Rules.{StandsAt}
use Rattle.fort_types_sets.specs.Best.{IsMostSpecific}
use Rattle.fort_typing_rules.specs.declared.choice.Choice.{Choice}
use Rattle.fort_typing_rules.specs.declared.choice.Choice.TheVariants as choice

-- Some declaration of the set is applicable to the types.
abbrev pub SomeApplicable : DeclaredTypes → MemberSet → List Ty → Type 0
SomeApplicable h s types = (i : ℕ) × (d : Member) × StandsAt s i d × IsApplicable h d types

-- A set's answer for types: where its most specific declaration stands; or some are applicable and
-- none is the most specific one; or none is applicable.
abbrev pub Chooses : DeclaredTypes → MemberSet → List Ty → Choice → Type 0
Chooses h s types (choice.At i) = IsMostSpecific h s types i
Chooses h s types choice.Unclear = SomeApplicable h s types
    × ((i : ℕ) → IsMostSpecific h s types i → ⊥)
Chooses h s types choice.NoneApplicable = SomeApplicable h s types → ⊥
