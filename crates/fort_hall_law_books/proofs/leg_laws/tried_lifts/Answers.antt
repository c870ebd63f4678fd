use Rattle.fort_hall_law_books.proofs.Taken.{tried_lifts}
use Rattle.fort_hall_law_books.proofs.leg_laws.tried_lifts.Goals as goal

pub returns : goal.returns
returns c = tried_lifts
