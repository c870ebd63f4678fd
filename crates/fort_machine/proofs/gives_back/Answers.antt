use Rattle.fort_machine.proofs.Effects.{gives_back}
use Rattle.fort_machine.proofs.gives_back.Goals as goal

pub returns : goal.returns
returns c = gives_back
