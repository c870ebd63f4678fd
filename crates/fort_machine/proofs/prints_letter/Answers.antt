use Rattle.fort_machine.proofs.WorkedRuns.{prints_letter}
use Rattle.fort_machine.proofs.prints_letter.Goals as goal

pub returns : goal.returns
returns c = prints_letter
