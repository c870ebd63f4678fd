use Rattle.fort_threads_law_worlds.proofs.Opening.{stores_after_open}
use Rattle.fort_threads_law_worlds.proofs.stores_after_open.Goals as goal

pub returns : goal.returns
returns c = stores_after_open
