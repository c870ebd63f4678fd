use Rattle.fort_walk_law_course.proofs.Reaches.{reached_here}
use Rattle.fort_walk_law_course.proofs.laws.reached_here.Goals as goal

pub returns : goal.returns
returns c = reached_here
