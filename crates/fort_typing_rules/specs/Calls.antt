-- The chapter "Typing", calls: what a call of a set has for the types of its arguments, and which
-- rule it breaks. Which declaration is applicable, most specific, or widened least, is told by the
-- chapter "Overload rules".
use Rattle.std.specs.Prelude.{◌≡◌, ◌↔◌, ℕ, Bool, false, IsTrue, List, length, slice_get, get_or, replicate, Option, Some, None}
use Rattle.fort_base.specs.declared.ids.SetId.{SetId}
use Rattle.fort_base.specs.declared.refusal.Rule.{Rule}
use Rattle.fort_base.specs.declared.rules.TheConstants.{NOT_APPLICABLE, WIDENING_UNCLEAR}
use Rattle.fort_base.specs.declared.ty.Ty.{Ty}
use Rattle.fort_types_sets.specs.declared.member.Member.{Member}
use Rattle.fort_types_sets.specs.declared.member.MemberSet.{MemberSet}
use Rattle.fort_types_sets.specs.Rules.{StandsAt}
use Rattle.fort_types_sets.specs.Best.{IsMostSpecific}
use Rattle.fort_typing_rules.specs.declared.choice.Choice.TheVariants as choice
use Rattle.fort_typing_rules.specs.declared.choice.Widening.{Widening}
use Rattle.fort_typing_rules.specs.Choosing.{Chooses}
use Rattle.fort_typing_rules.specs.Widening.{WidenedAt, AreWidened, Widens}
use Rattle.fort_typing_known.specs.Known.{Knows}
use Rattle.fort_types_builtin.specs.declared.types.TheConstants.{ZZ32, ZZ64}

-- ZZ32 is widened to ZZ64
abbrev pub to_zz64 : Widening
to_zz64 = record { from = ZZ32; to = ZZ64 }

-- Which positions are widened for a declaration.
pub record ArePositions (d : Member) (types : List Ty) (widened : List Bool) : Type 0 where
  pub long : length widened ≡ length types
  pub at : (n : ℕ) → IsTrue (get_or widened n false) ↔ WidenedAt to_zz64 d types n

-- the set of a number
abbrev pub set_at : Knows → SetId → Option MemberSet
set_at k set = slice_get k.facts.members.sets set.0

-- What a call has: of a set with arguments of these types, a result, and which of them are widened.
abbrev pub Calling : Type 1
Calling = SetId → List Ty → Ty → List Bool → Type 0

-- A call of a set with arguments of these types has this result, and these of them are widened.
pub data Calls (k : Knows) (set : SetId) (types : List Ty) (result : Ty)
    (widened : List Bool) : Type 0 where
  -- a declaration is applicable: the most specific one
  plain : (s : MemberSet) (i : ℕ) (d : Member) → set_at k set ≡ Some s
      → Chooses k.declared s types (choice.At i) → StandsAt s i d
      → result ≡ d.result → widened ≡ replicate (length types) false
      → Calls k set types result widened
  -- none is: the most specific one for the types that are widened least
  widening : (s : MemberSet) (i j : ℕ) (p d : Member) (wide : List Ty) → set_at k set ≡ Some s
      → Chooses k.declared s types choice.NoneApplicable
      → Widens k.declared to_zz64 s types (choice.At i) → StandsAt s i p
      → AreWidened to_zz64 p types wide → Chooses k.declared s wide (choice.At j) → StandsAt s j d
      → result ≡ d.result → ArePositions p types widened → Calls k set types result widened

-- A call of a set with arguments of these types breaks a rule.
pub data CallBreaks (k : Knows) (set : SetId) (types : List Ty) (rule : Rule) : Type 0 where
  -- there is no such set: 602
  no_set : set_at k set ≡ None → rule ≡ NOT_APPLICABLE → CallBreaks k set types rule
  -- no declaration is applicable, also with widening: 602
  not_applicable : (s : MemberSet) → set_at k set ≡ Some s
      → Chooses k.declared s types choice.NoneApplicable
      → Widens k.declared to_zz64 s types choice.NoneApplicable → rule ≡ NOT_APPLICABLE
      → CallBreaks k set types rule
  -- some are with widening, and none of these widens least: 614
  unclear : (s : MemberSet) → set_at k set ≡ Some s
      → Chooses k.declared s types choice.NoneApplicable
      → Widens k.declared to_zz64 s types choice.Unclear → rule ≡ WIDENING_UNCLEAR
      → CallBreaks k set types rule
  -- some are applicable and none is the most specific one, which no set that keeps the overload
  -- rules has: 602
  no_best : (s : MemberSet) → set_at k set ≡ Some s → Chooses k.declared s types choice.Unclear
      → rule ≡ NOT_APPLICABLE → CallBreaks k set types rule
  no_best_widened : (s : MemberSet) (i : ℕ) (p : Member) (wide : List Ty) → set_at k set ≡ Some s
      → Chooses k.declared s types choice.NoneApplicable
      → Widens k.declared to_zz64 s types (choice.At i) → StandsAt s i p
      → AreWidened to_zz64 p types wide
      → ((j : ℕ) → IsMostSpecific k.declared s wide j → ⊥) → rule ≡ NOT_APPLICABLE
      → CallBreaks k set types rule
