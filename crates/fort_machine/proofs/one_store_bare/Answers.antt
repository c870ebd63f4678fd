use Rattle.fort_machine.proofs.Legs.{one_store_bare}
use Rattle.fort_machine.proofs.one_store_bare.Goals as goal

pub returns : goal.returns
returns c = one_store_bare
