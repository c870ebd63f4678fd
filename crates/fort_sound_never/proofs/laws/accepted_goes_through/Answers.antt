use Rattle.fort_sound_never.proofs.Goes.{goes_through}
use Rattle.fort_sound_never.proofs.laws.accepted_goes_through.Goals as goal

pub returns : goal.returns
returns c = goes_through c.accepted_is_sound.ensures c.founded_goes_through.ensures
