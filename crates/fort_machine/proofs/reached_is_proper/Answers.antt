use Rattle.fort_machine.proofs.ProperRuns.{reached_is_proper}
use Rattle.fort_machine.proofs.reached_is_proper.Goals as goal

pub returns : goal.returns
returns c = reached_is_proper
