use Rattle.fort_walk_law_course.proofs.Keeps.{completion_keeps}
use Rattle.fort_walk_law_course.proofs.laws.completion_keeps.Goals as goal

pub returns : goal.returns
returns c = completion_keeps
