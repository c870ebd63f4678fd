use Rattle.fort_machine.proofs.Split.{runs_part}
use Rattle.fort_machine.proofs.runs_part.Goals as goal

pub returns : goal.returns
returns c = runs_part
