use Rattle.fort_machine_law_worked.proofs.OverflowRun.{overflows}
use Rattle.fort_machine_law_worked.proofs.overflow.overflows.Goals as goal

pub returns : goal.returns
returns c = overflows
