use Rattle.fort_walk_law_course.proofs.Keeps.{leaving_keeps}
use Rattle.fort_walk_law_course.proofs.laws.leaving_keeps.Goals as goal

pub returns : goal.returns
returns c = leaving_keeps
