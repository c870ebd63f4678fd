use Rattle.fort_machine.proofs.Single.{one_run}
use Rattle.fort_machine.proofs.one_run.Goals as goal

pub returns : goal.returns
returns c = one_run
