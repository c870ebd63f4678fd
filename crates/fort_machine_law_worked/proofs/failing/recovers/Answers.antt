use Rattle.fort_machine_law_worked.proofs.failing.recovers.Goals as goal
use Rattle.fort_machine_law_worked.proofs.FailingRun.{recovers}

pub returns : goal.returns
returns c = recovers
