use Rattle.fort_machine_law_worked.proofs.failing.outer_completes.Goals as goal
use Rattle.fort_machine_law_worked.proofs.FailingRun.{outer_completes}

pub returns : goal.returns
returns c = outer_completes
