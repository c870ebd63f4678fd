use Rattle.fort_hall_law_books.proofs.Legs.{legs_run}
use Rattle.fort_hall_law_books.proofs.leg_laws.legs_run.Goals as goal

pub returns : goal.returns
returns c = legs_run
