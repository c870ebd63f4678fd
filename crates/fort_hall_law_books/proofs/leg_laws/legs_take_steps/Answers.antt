use Rattle.fort_hall_law_books.proofs.Legs.{legs_take_steps}
use Rattle.fort_hall_law_books.proofs.leg_laws.legs_take_steps.Goals as goal

pub returns : goal.returns
returns c = legs_take_steps
