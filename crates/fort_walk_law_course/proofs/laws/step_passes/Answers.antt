use Rattle.fort_walk_law_course.proofs.Passes.{step_passes}
use Rattle.fort_walk_law_course.proofs.laws.step_passes.Goals as goal

pub returns : goal.returns
returns c = step_passes
