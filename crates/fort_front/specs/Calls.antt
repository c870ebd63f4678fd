-- The chapter "Overload rules", its law, of the sets of a component that keeps all the rules. The
-- code asks none of this.
use Rattle.std.specs.Prelude.{◌≡◌, ◌≢◌, ℕ, List, slice_get, Some}
use Rattle.fort_base.specs.declared.ty.Ty.{Ty}
use Rattle.fort_tree.specs.declared.declarations.Component.{Component}
use Rattle.fort_hier.specs.Hierarchies.{declares}
use Rattle.fort_types_sets.specs.declared.member.Member.{Member}
use Rattle.fort_types_sets.specs.declared.member.MemberKind.TheVariants as a_kind
use Rattle.fort_types_sets.specs.declared.member.MemberSet.{MemberSet}
use Rattle.fort_types_sets.specs.Applicable.{IsApplicable}
use Rattle.fort_types_sets.specs.Best.{IsMostSpecific, AreSolid, AreOfValues}
use Rattle.fort_types_sets.specs.Rules.{StandsAt}
use Rattle.fort_front.specs.Front.{IsFormed}

-- In a component that keeps the rules, of each overload set exactly one declaration is most
-- specific for all solid types to which one of its declarations is applicable.
abbrev pub ExactlyOne : Type 0
ExactlyOne = (c : Component) (f : IsFormed c) (n : ℕ) (s : MemberSet)
    → slice_get f.members.sets n ≡ Some s → (types : List Ty) → AreSolid types
    → (i : ℕ) (d : Member) → StandsAt s i d → IsApplicable (declares c) d types
    → (k : ℕ) × IsMostSpecific (declares c) s types k
    × ((j : ℕ) → IsMostSpecific (declares c) s types j → j ≡ k)

-- There the most specific declaration for types of values isn't abstract.
abbrev pub NeverAbstract : Type 0
NeverAbstract = (c : Component) (f : IsFormed c) (n : ℕ) (s : MemberSet)
    → slice_get f.members.sets n ≡ Some s → (types : List Ty) → AreSolid types
    → AreOfValues (declares c) types
    → (k : ℕ) (best : IsMostSpecific (declares c) s types k)
    → best.chosen.kind ≢ a_kind.Abstract
