use Rattle.fort_sound_typed.proofs.Finite.{stays_finite}
use Rattle.fort_sound_typed.proofs.stays_finite.Goals as goal

pub returns : goal.returns
returns c = stays_finite
