use Rattle.fort_walk_law_course.proofs.Keeps.{falling_asleep_keeps}
use Rattle.fort_walk_law_course.proofs.laws.falling_asleep_keeps.Goals as goal

pub returns : goal.returns
returns c = falling_asleep_keeps
