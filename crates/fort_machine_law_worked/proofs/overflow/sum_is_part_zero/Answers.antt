use Rattle.fort_machine_law_worked.proofs.OverflowRun.{sum_is_part_zero}
use Rattle.fort_machine_law_worked.proofs.overflow.sum_is_part_zero.Goals as goal

pub returns : goal.returns
returns c = sum_is_part_zero
