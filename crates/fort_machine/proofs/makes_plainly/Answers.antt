use Rattle.fort_machine.proofs.Plain.{makes_plainly}
use Rattle.fort_machine.proofs.makes_plainly.Goals as goal

pub returns : goal.returns
returns c = makes_plainly
