use Rattle.fort_walk_law_course.proofs.Keeps.{giving_up_keeps}
use Rattle.fort_walk_law_course.proofs.laws.giving_up_keeps.Goals as goal

pub returns : goal.returns
returns c = giving_up_keeps
