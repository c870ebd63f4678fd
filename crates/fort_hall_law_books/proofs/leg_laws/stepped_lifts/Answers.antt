use Rattle.fort_hall_law_books.proofs.Taken.{stepped_lifts}
use Rattle.fort_hall_law_books.proofs.leg_laws.stepped_lifts.Goals as goal

pub returns : goal.returns
returns c = stepped_lifts
