use Rattle.fort_machine.proofs.Costs.{picks_cost}
use Rattle.fort_machine.proofs.picks_cost.Goals as goal

pub returns : goal.returns
returns c = picks_cost
