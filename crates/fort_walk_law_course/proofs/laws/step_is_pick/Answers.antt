use Rattle.fort_walk_law_course.proofs.Picks.{step_is_pick}
use Rattle.fort_walk_law_course.proofs.laws.step_is_pick.Goals as goal

pub returns : goal.returns
returns c = step_is_pick
