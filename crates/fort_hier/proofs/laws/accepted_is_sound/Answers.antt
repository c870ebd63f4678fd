use Rattle.fort_hier.proofs.AcceptedLaws.{accepted_sound}
use Rattle.fort_hier.proofs.laws.accepted_is_sound.Goals as goal

pub returns : goal.returns
returns c = λ component mentioned h a. accepted_sound component mentioned h a
