use Rattle.fort_hall_law_books.proofs.Course.{task_is_in_reach}
use Rattle.fort_hall_law_books.proofs.course_laws.task_is_in_reach.Goals as goal

pub returns : goal.returns
returns c = task_is_in_reach
