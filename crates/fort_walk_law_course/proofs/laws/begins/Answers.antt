use Rattle.fort_walk_law_course.proofs.Keeps.{begins}
use Rattle.fort_walk_law_course.proofs.laws.begins.Goals as goal

pub returns : goal.returns
returns c = begins
