use Rattle.fort_machine_law_attempts.proofs.Attempts.{goes_on}
use Rattle.fort_machine_law_attempts.proofs.goes_on_by_attempts.Goals as goal

pub returns : goal.returns
returns c = goes_on
