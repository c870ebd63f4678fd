use Rattle.fort_hall_law_books.proofs.Taken.{stepped_is_framed}
use Rattle.fort_hall_law_books.proofs.leg_laws.stepped_is_framed.Goals as goal

pub returns : goal.returns
returns c = stepped_is_framed
