use Rattle.fort_walk_law_course.proofs.Picks.{attempt_is_pick}
use Rattle.fort_walk_law_course.proofs.laws.attempt_is_pick.Goals as goal

pub returns : goal.returns
returns c = attempt_is_pick
