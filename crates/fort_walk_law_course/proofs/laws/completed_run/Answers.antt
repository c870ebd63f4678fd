use Rattle.fort_walk_law_course.proofs.Passes.{completed_run}
use Rattle.fort_walk_law_course.proofs.laws.completed_run.Goals as goal

pub returns : goal.returns
returns c = completed_run
