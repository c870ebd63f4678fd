use Rattle.fort_sound_never.proofs.Goes.{founded_through}
use Rattle.fort_sound_never.proofs.laws.founded_goes_through.Goals as goal

pub returns : goal.returns
returns c = founded_through
