use Rattle.fort_walk_law_course.proofs.Passes.{attempt_passes}
use Rattle.fort_walk_law_course.proofs.laws.attempt_passes.Goals as goal

pub returns : goal.returns
returns c = attempt_passes
