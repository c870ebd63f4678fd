use Rattle.fort_machine.proofs.Legs.{one_store}
use Rattle.fort_machine.proofs.one_store.Goals as goal

pub returns : goal.returns
returns c = one_store
