use Rattle.fort_machine.proofs.Picks.{all_fit}
use Rattle.fort_machine.proofs.all_fit.Goals as goal

pub returns : goal.returns
returns c = all_fit
