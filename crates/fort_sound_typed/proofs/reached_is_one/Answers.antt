use Rattle.fort_sound_typed.proofs.Laws.{reached_is_one}
use Rattle.fort_sound_typed.proofs.reached_is_one.Goals as goal

pub returns : goal.returns
returns c = reached_is_one
