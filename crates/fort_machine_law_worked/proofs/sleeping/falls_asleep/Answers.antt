use Rattle.fort_machine_law_worked.proofs.sleeping.falls_asleep.Goals as goal
use Rattle.fort_machine_law_worked.proofs.SleepingRun.{falls_asleep}

pub returns : goal.returns
returns c = falls_asleep
