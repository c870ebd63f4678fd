use Rattle.fort_machine.proofs.Plain.{reads_plainly}
use Rattle.fort_machine.proofs.reads_plainly.Goals as goal

pub returns : goal.returns
returns c = reads_plainly
