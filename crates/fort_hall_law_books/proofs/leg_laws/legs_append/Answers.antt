use Rattle.fort_hall_law_books.proofs.Legs.{legs_append}
use Rattle.fort_hall_law_books.proofs.leg_laws.legs_append.Goals as goal

pub returns : goal.returns
returns c = legs_append
