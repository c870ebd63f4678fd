use Rattle.fort_sound_typed.proofs.Laws.{stays_typed}
use Rattle.fort_sound_typed.proofs.stays_typed.Goals as goal

pub returns : goal.returns
returns c = stays_typed
