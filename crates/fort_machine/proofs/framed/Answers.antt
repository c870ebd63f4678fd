use Rattle.fort_machine.proofs.Frame.{framed}
use Rattle.fort_machine.proofs.framed.Goals as goal

pub returns : goal.returns
returns c = framed
