use Rattle.fort_walk_law_course.proofs.Reaches.{bare_here}
use Rattle.fort_walk_law_course.proofs.laws.bare_here.Goals as goal

pub returns : goal.returns
returns c = bare_here
