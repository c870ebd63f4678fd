use Rattle.fort_walk_law_course.proofs.Picks.{nobody_awake}
use Rattle.fort_walk_law_course.proofs.laws.nobody_awake.Goals as goal

pub returns : goal.returns
returns c = nobody_awake
