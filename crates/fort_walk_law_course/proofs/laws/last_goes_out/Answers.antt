use Rattle.fort_walk_law_course.proofs.Passes.{last_goes_out}
use Rattle.fort_walk_law_course.proofs.laws.last_goes_out.Goals as goal

pub returns : goal.returns
returns c = last_goes_out
