use Rattle.fort_machine.proofs.Picks.{runs_join}
use Rattle.fort_machine.proofs.runs_join.Goals as goal

pub returns : goal.returns
returns c = runs_join
