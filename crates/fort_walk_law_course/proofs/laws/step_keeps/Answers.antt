use Rattle.fort_walk_law_course.proofs.Keeps.{step_keeps}
use Rattle.fort_walk_law_course.proofs.laws.step_keeps.Goals as goal

pub returns : goal.returns
returns c = step_keeps
