use Rattle.fort_threads_law_worlds.proofs.Together.{do_alike_together}
use Rattle.fort_threads_law_worlds.proofs.do_alike_together.Goals as goal

pub returns : goal.returns
returns c = do_alike_together
