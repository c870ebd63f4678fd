use Rattle.fort_hall_law_books.proofs.Legs.{leg_is_legs}
use Rattle.fort_hall_law_books.proofs.leg_laws.leg_is_legs.Goals as goal

pub returns : goal.returns
returns c = leg_is_legs
