use Rattle.fort_machine_law_worked.proofs.sleeping.wakes.Goals as goal
use Rattle.fort_machine_law_worked.proofs.SleepingRun.{wakes}

pub returns : goal.returns
returns c = wakes
