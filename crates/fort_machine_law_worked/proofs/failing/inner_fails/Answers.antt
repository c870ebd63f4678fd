use Rattle.fort_machine_law_worked.proofs.failing.inner_fails.Goals as goal
use Rattle.fort_machine_law_worked.proofs.FailingRun.{inner_fails}

pub returns : goal.returns
returns c = inner_fails
