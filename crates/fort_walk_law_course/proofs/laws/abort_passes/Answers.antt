use Rattle.fort_walk_law_course.proofs.Passes.{abort_passes}
use Rattle.fort_walk_law_course.proofs.laws.abort_passes.Goals as goal

pub returns : goal.returns
returns c = abort_passes
