use Rattle.fort_hall_law_books.proofs.Legs.{legs_reach}
use Rattle.fort_hall_law_books.proofs.leg_laws.legs_reach.Goals as goal

pub returns : goal.returns
returns c = legs_reach
