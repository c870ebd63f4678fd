use Rattle.fort_walk_stretch.proofs.Below.{leg_stays_below}
use Rattle.fort_walk_stretch.proofs.laws.leg_stays_below.Goals as goal

pub returns : goal.returns
returns c = leg_stays_below
