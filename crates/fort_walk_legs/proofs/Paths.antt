-- A part's steps as those of the whole.
use Rattle.std.proofs.Common.{◌≡◌, List, [], ◌∷◌, map, refl, sym, ◌∙◌}
use Rattle.fort_core.specs.declared.pick.Pick.{Pick, out-Pick, roll-Pick, roll-out-Pick}
use Rattle.fort_core.specs.declared.pick.Pick.TheOpen.{Pick-F}
use Rattle.fort_core.specs.declared.pick.Pick.TheVariants.{rolls-Attempt, rolls-Step}
use Rattle.fort_machine.specs.Threads.{under, under_at}

-- without a path before its own a pick is itself
none_at : (x : Pick-F Pick) → under_at [] x ≡ roll-Pick x
none_at (Pick-F.Step path loc) = sym (rolls-Step path loc)
none_at (Pick-F.Attempt path within) = sym (rolls-Attempt path within)

none_before : (pick : Pick) → under [] pick ≡ pick
none_before pick = none_at (out-Pick pick) ∙ roll-out-Pick pick

pub none_under : (picks : List Pick) → picks ≡ map (under []) picks
none_under [] = refl
none_under (pick ∷ picks) = λ i. sym (none_before pick) i ∷ none_under picks i
