use Rattle.std.proofs.Common.{◌≡◌, map, take}
use Rattle.fort_hier.specs.Heads.{head_place}
use Rattle.fort_hier.proofs.accepted.places_in.Given as goal

abbrev pub invariant-loop-i : goal.invariant-loop-i
invariant-loop-i l = l.places ≡ map head_place (take l.i l.heads)
