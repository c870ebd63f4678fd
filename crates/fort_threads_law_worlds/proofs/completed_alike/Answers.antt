use Rattle.fort_threads_law_worlds.proofs.Closing.{completed_alike}
use Rattle.fort_threads_law_worlds.proofs.completed_alike.Goals as goal

pub returns : goal.returns
returns c = completed_alike
