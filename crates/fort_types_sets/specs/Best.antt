-- The chapter "Overload rules": the declaration that a call runs, by asking every declaration of
-- the set, and the law that there is exactly one.
use Rattle.std.specs.Prelude.{◌≡◌, ◌≢◌, ℕ, List, slice_get, Some}
use Rattle.fort_base.specs.declared.ids.TypeId.{TypeId}
use Rattle.fort_base.specs.declared.table.TypeTable.{TypeTable}
use Rattle.fort_base.specs.declared.ty.Ty.{Ty, out-Ty}
use Rattle.fort_base.specs.declared.ty.Ty.TheOpen.{Ty-F}
use Rattle.fort_types.specs.Hierarchy.{DeclaredTypes, Leaf, Sound}
use Rattle.fort_types.specs.Types.{Solid}
use Rattle.fort_types.specs.Table.{HasRows}
use Rattle.fort_types_sets.specs.declared.member.Member.{Member}
use Rattle.fort_types_sets.specs.declared.member.MemberKind.TheVariants as a_kind
use Rattle.fort_types_sets.specs.declared.member.MemberSet.{MemberSet}
use Rattle.fort_types_sets.specs.Applicable.{IsApplicable, IsMoreSpecific}
use Rattle.fort_types_sets.specs.Rules.{StandsAt, IsWellMade, KeepsRules}

-- The declaration at a position is the most specific one for a list of types: it is applicable, and
-- more specific than each that is applicable.
pub record IsMostSpecific (h : DeclaredTypes) (s : MemberSet) (types : List Ty)
    (i : ℕ) : Type 0 where
  pub chosen : Member
  pub is : StandsAt s i chosen
  pub applicable : IsApplicable h chosen types
  pub least : (j : ℕ) (d : Member) → StandsAt s j d → IsApplicable h d types
      → IsMoreSpecific h chosen d

-- All types of a list are solid, as those of values are.
abbrev pub AreSolid : List Ty → Type 0
AreSolid types = (k : ℕ) (x : Ty) → slice_get types k ≡ Some x → Solid x

-- The declared types of a list are objects or leaves, as those of values are.
abbrev pub AreOfValues : DeclaredTypes → List Ty → Type 0
AreOfValues h types = (k : ℕ) (x : Ty) (i : TypeId) → slice_get types k ≡ Some x
    → out-Ty x ≡ Ty-F.Named i → Leaf h i.0

-- Where a set keeps the rules, then for all solid types to which one of its declarations is
-- applicable exactly one declaration is most specific.
abbrev pub ExactlyOne : Type 0
ExactlyOne = (h : DeclaredTypes) (table : TypeTable) → Sound h → HasRows h table → (s : MemberSet)
    → IsWellMade h s → KeepsRules h s
    → (types : List Ty) → AreSolid types → (i : ℕ) (d : Member) → StandsAt s i d
    → IsApplicable h d types
    → (k : ℕ) × IsMostSpecific h s types k × ((j : ℕ) → IsMostSpecific h s types j → j ≡ k)

-- There the most specific declaration for types of values isn't abstract.
abbrev pub NeverAbstract : Type 0
NeverAbstract = (h : DeclaredTypes) (table : TypeTable) → Sound h → HasRows h table
    → (s : MemberSet) → IsWellMade h s → KeepsRules h s
    → (types : List Ty) → AreSolid types → AreOfValues h types
    → (k : ℕ) (best : IsMostSpecific h s types k) → best.chosen.kind ≢ a_kind.Abstract
