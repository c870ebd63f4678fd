use Rattle.fort_hall_law_books.proofs.Legs.{legs_take_attempt}
use Rattle.fort_hall_law_books.proofs.leg_laws.legs_take_attempt.Goals as goal

pub returns : goal.returns
returns c = legs_take_attempt
