use Rattle.fort_walk_legs.proofs.Legs.{legs_join}
use Rattle.fort_walk_legs.proofs.laws.legs_join.Goals as goal

pub returns : goal.returns
returns c = legs_join
