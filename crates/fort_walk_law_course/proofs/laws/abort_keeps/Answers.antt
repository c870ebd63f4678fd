use Rattle.fort_walk_law_course.proofs.Keeps.{abort_keeps}
use Rattle.fort_walk_law_course.proofs.laws.abort_keeps.Goals as goal

pub returns : goal.returns
returns c = abort_keeps
