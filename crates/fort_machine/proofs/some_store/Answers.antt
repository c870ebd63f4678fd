use Rattle.fort_machine.proofs.Legs.{some_store}
use Rattle.fort_machine.proofs.some_store.Goals as goal

pub returns : goal.returns
returns c = some_store
