use Rattle.std.proofs.Common.{◌≡◌, take}
use Rattle.fort_link.specs.Whole.{components, last_end}
use Rattle.fort_link.proofs.whole.last_end.Given as goal

abbrev pub invariant-loop-unit : goal.invariant-loop-unit
invariant-loop-unit l = l.end ≡ last_end (components (take l.unit-index l.units))
