use Rattle.fort_threads_law_worlds.proofs.Closing.{aborted_alike}
use Rattle.fort_threads_law_worlds.proofs.aborted_alike.Goals as goal

pub returns : goal.returns
returns c = aborted_alike
