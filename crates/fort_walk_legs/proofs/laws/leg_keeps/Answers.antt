use Rattle.fort_walk_legs.proofs.Course.{leg_keeps}
use Rattle.fort_walk_legs.proofs.laws.leg_keeps.Goals as goal

pub returns : goal.returns
returns c = leg_keeps
