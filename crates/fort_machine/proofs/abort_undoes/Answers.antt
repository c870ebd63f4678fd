use Rattle.fort_machine.proofs.Effects.{abort_undoes}
use Rattle.fort_machine.proofs.abort_undoes.Goals as goal

pub returns : goal.returns
returns c = abort_undoes
