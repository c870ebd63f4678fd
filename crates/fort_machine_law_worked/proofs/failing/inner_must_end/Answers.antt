use Rattle.fort_machine_law_worked.proofs.failing.inner_must_end.Goals as goal
use Rattle.fort_machine_law_worked.proofs.LeftOut.{inner_must_end}

pub returns : goal.returns
returns c = inner_must_end
