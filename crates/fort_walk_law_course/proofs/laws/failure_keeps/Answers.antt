use Rattle.fort_walk_law_course.proofs.Keeps.{failure_keeps}
use Rattle.fort_walk_law_course.proofs.laws.failure_keeps.Goals as goal

pub returns : goal.returns
returns c = failure_keeps
