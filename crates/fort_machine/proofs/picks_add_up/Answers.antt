use Rattle.fort_machine.proofs.Picks.{picks_add_up}
use Rattle.fort_machine.proofs.picks_add_up.Goals as goal

pub returns : goal.returns
returns c = picks_add_up
