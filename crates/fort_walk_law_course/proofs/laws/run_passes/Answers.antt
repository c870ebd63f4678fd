use Rattle.fort_walk_law_course.proofs.Passes.{run_passes}
use Rattle.fort_walk_law_course.proofs.laws.run_passes.Goals as goal

pub returns : goal.returns
returns c = run_passes
