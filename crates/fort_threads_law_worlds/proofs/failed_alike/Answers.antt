use Rattle.fort_threads_law_worlds.proofs.Closing.{failed_alike}
use Rattle.fort_threads_law_worlds.proofs.failed_alike.Goals as goal

pub returns : goal.returns
returns c = failed_alike
