use Rattle.fort_walk_legs.proofs.Legs.{leg_is_framed}
use Rattle.fort_walk_legs.proofs.laws.leg_is_framed.Goals as goal

pub returns : goal.returns
returns c = leg_is_framed
