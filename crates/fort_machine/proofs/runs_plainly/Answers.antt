use Rattle.fort_machine.proofs.Plain.{runs_plainly}
use Rattle.fort_machine.proofs.runs_plainly.Goals as goal

pub returns : goal.returns
returns c = runs_plainly
