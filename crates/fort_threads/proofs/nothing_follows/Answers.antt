use Rattle.fort_threads.proofs.Lives.{nothing_follows}
use Rattle.fort_threads.proofs.nothing_follows.Goals as goal

pub returns : goal.returns
returns c = nothing_follows
