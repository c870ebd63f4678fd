use Rattle.fort_hall_law_books.proofs.Taken.{tried_runs}
use Rattle.fort_hall_law_books.proofs.leg_laws.tried_runs.Goals as goal

pub returns : goal.returns
returns c = tried_runs
