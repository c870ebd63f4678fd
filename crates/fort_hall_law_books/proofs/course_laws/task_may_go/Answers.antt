use Rattle.fort_hall_law_books.proofs.Course.{task_may_go}
use Rattle.fort_hall_law_books.proofs.course_laws.task_may_go.Goals as goal

pub returns : goal.returns
returns c = task_may_go
