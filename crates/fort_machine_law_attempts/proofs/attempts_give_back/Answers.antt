use Rattle.fort_machine_law_attempts.proofs.Attempts.{give_back}
use Rattle.fort_machine_law_attempts.proofs.attempts_give_back.Goals as goal

pub returns : goal.returns
returns c = give_back
