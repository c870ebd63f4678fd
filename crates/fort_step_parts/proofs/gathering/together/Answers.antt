use Rattle.std.proofs.Common.{ap, sym, ◌∙◌}
use Rattle.fort_machine.specs.Acts.{standing_together}
use Rattle.fort_step_parts.proofs.Gathers.{all_gathered}
use Rattle.fort_step_parts.proofs.gathering.together.Goals as goal

pub returns : goal.returns
returns c =
    ap standing_together (sym c.as_slice-part-items.ensures)
    ∙ all_gathered c.as_slice-part-items.result.now c.loop-part.part-index c.loop-part.gathered
    c.loop-part.invariant c.loop-part-test.false
