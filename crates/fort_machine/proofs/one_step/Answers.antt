use Rattle.fort_machine.proofs.Single.{one_step}
use Rattle.fort_machine.proofs.one_step.Goals as goal

pub returns : goal.returns
returns c = one_step
