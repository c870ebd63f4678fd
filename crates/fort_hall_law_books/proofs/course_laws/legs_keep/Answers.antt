use Rattle.fort_hall_law_books.proofs.Course.{legs_keep}
use Rattle.fort_hall_law_books.proofs.course_laws.legs_keep.Goals as goal

pub returns : goal.returns
returns c = legs_keep
