use Rattle.fort_machine.proofs.Plain.{writes_plainly}
use Rattle.fort_machine.proofs.writes_plainly.Goals as goal

pub returns : goal.returns
returns c = writes_plainly
