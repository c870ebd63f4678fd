use Rattle.fort_walk_legs.proofs.Legs.{part_is_in_reach}
use Rattle.fort_walk_legs.proofs.laws.part_is_in_reach.Goals as goal

pub returns : goal.returns
returns c = part_is_in_reach
