use Rattle.fort_machine.proofs.Effects.{effects_follow}
use Rattle.fort_machine.proofs.effects_follow.Goals as goal

pub returns : goal.returns
returns c = effects_follow
