use Rattle.fort_machine.proofs.Places.{one_place}
use Rattle.fort_machine.proofs.one_place.Goals as goal

pub returns : goal.returns
returns c = one_place
