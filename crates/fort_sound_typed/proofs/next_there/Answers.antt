use Rattle.fort_sound_typed.proofs.Awake.{next_there}
use Rattle.fort_sound_typed.proofs.next_there.Goals as goal

pub returns : goal.returns
returns c = next_there
