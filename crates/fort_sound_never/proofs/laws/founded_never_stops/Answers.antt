use Rattle.fort_sound_never.proofs.Goes.{founded_never}
use Rattle.fort_sound_never.proofs.laws.founded_never_stops.Goals as goal

pub returns : goal.returns
returns c = founded_never c.stays_typed.ensures c.someone_may_go.ensures
