use Rattle.fort_machine.proofs.Effects.{effects_part}
use Rattle.fort_machine.proofs.effects_part.Goals as goal

pub returns : goal.returns
returns c = effects_part
