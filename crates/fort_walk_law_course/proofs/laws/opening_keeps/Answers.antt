use Rattle.fort_walk_law_course.proofs.Keeps.{opening_keeps}
use Rattle.fort_walk_law_course.proofs.laws.opening_keeps.Goals as goal

pub returns : goal.returns
returns c = opening_keeps
