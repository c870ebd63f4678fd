use Rattle.fort_machine.proofs.Picks.{stepped_goes_on}
use Rattle.fort_machine.proofs.stepped_goes_on.Goals as goal

pub returns : goal.returns
returns c = stepped_goes_on
