use Rattle.fort_hall_law_books.proofs.Legs.{legs_lift}
use Rattle.fort_hall_law_books.proofs.leg_laws.legs_lift.Goals as goal

pub returns : goal.returns
returns c = legs_lift
