use Rattle.fort_sound_typed.proofs.Laws.{reached_is_typed}
use Rattle.fort_sound_typed.proofs.reached_is_typed.Goals as goal

pub returns : goal.returns
returns c = reached_is_typed
