use Rattle.std.proofs.Common.{◌≡◌, drop}
use Rattle.fort_machine.specs.Acts.{standing_together}
use Rattle.fort_step_parts.specs.Gathering.{before}
use Rattle.fort_step_parts.proofs.gathering.together.Given as goal

abbrev pub invariant-loop-part : goal.invariant-loop-part
invariant-loop-part l =
    standing_together l.part-items
    ≡ before l.gathered (standing_together (drop l.part-index l.part-items))
