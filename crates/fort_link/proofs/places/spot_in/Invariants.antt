use Rattle.std.proofs.Common.{◌≡◌, ◌<◌, ◌⊎◌, take}
use Rattle.fort_link.specs.Lines.{all_lines}
use Rattle.fort_link.proofs.places.spot_in.Given as goal

abbrev pub invariant-loop-i : goal.invariant-loop-i
invariant-loop-i l =
    (l.before ≡ all_lines (take l.i l.files)) × ((l.i ≡ 0) ⊎ (l.before < l.place.line))
