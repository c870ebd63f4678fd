use Rattle.fort_machine_law_worked.proofs.sleeping.sleeper_waits.Goals as goal
use Rattle.fort_machine_law_worked.proofs.Waiting.{sleeper_waits, sleeper_is_not_next}

pub returns-clause-run : goal.returns-clause-run
returns-clause-run c = sleeper_waits

pub returns-clause-next : goal.returns-clause-next
returns-clause-next c = sleeper_is_not_next
