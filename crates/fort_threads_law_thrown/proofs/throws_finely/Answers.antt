use Rattle.fort_threads_law_thrown.proofs.Laws.{throws_finely}
use Rattle.fort_threads_law_thrown.proofs.throws_finely.Goals as goal

pub returns : goal.returns
returns c = throws_finely
