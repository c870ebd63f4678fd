use Rattle.fort_walk_legs.proofs.Legs.{leg_lifts}
use Rattle.fort_walk_legs.proofs.laws.leg_lifts.Goals as goal

pub returns : goal.returns
returns c = leg_lifts
