use Rattle.fort_walk_law_course.proofs.Picks.{begun_within}
use Rattle.fort_walk_law_course.proofs.laws.begun_within.Goals as goal

pub returns : goal.returns
returns c = begun_within
