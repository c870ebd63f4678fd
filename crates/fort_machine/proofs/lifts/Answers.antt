use Rattle.fort_machine.proofs.Picks.{lifts}
use Rattle.fort_machine.proofs.lifts.Goals as goal

pub returns : goal.returns
returns c = lifts
