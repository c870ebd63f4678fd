use Rattle.fort_machine.proofs.Effects.{effects_join}
use Rattle.fort_machine.proofs.effects_join.Goals as goal

pub returns : goal.returns
returns c = effects_join
