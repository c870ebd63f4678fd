use Rattle.fort_walk_law_course.proofs.Passes.{uncaught_run}
use Rattle.fort_walk_law_course.proofs.laws.uncaught_run.Goals as goal

pub returns : goal.returns
returns c = uncaught_run
