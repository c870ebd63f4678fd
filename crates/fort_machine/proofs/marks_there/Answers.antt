use Rattle.fort_machine.proofs.Read.{marks_there}
use Rattle.fort_machine.proofs.marks_there.Goals as goal

pub returns : goal.returns
returns c = marks_there
