use Rattle.fort_hall_law_books.proofs.Taken.{tried_is_framed}
use Rattle.fort_hall_law_books.proofs.leg_laws.tried_is_framed.Goals as goal

pub returns : goal.returns
returns c = tried_is_framed
