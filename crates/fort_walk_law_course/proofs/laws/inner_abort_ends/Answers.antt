use Rattle.fort_walk_law_course.proofs.Picks.{inner_abort_ends}
use Rattle.fort_walk_law_course.proofs.laws.inner_abort_ends.Goals as goal

pub returns : goal.returns
returns c = inner_abort_ends
