use Rattle.fort_sound_typed.proofs.Laws.{run_is_typed}
use Rattle.fort_sound_typed.proofs.run_is_typed.Goals as goal

pub returns : goal.returns
returns c = run_is_typed
