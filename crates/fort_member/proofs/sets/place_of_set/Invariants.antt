use Rattle.std.proofs.Common.{◌≡◌, ◌<◌, ℕ, true, Some}
use Rattle.std.specs.List.{slice_get}
use Rattle.fort_types_sets.specs.declared.member.MemberSet.{MemberSet}
use Rattle.fort_member.specs.Sets.{same_key, key_of, set_key}
use Rattle.fort_member.proofs.sets.place_of_set.Given as goal

abbrev pub invariant-loop-at : goal.invariant-loop-at
invariant-loop-at l = (i : ℕ) (s : MemberSet) → i < l.at → slice_get l.sets i ≡ Some s
    → same_key (set_key s) (key_of l.entry) ≡ true → ⊥
