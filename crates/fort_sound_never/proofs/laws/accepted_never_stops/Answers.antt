use Rattle.fort_sound_never.proofs.Goes.{accepted_never}
use Rattle.fort_sound_never.proofs.laws.accepted_never_stops.Goals as goal

pub returns : goal.returns
returns c = accepted_never c.accepted_is_sound.ensures c.founded_never_stops.ensures
