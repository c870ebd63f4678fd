use Rattle.fort_threads_law_worlds.proofs.After.{stores_after_completing}
use Rattle.fort_threads_law_worlds.proofs.stores_after_completing.Goals as goal

pub returns : goal.returns
returns c = stores_after_completing
