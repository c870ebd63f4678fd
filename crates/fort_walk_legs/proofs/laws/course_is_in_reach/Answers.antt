use Rattle.fort_walk_legs.proofs.Course.{course_is_in_reach}
use Rattle.fort_walk_legs.proofs.laws.course_is_in_reach.Goals as goal

pub returns : goal.returns
returns c = course_is_in_reach
