use Rattle.fort_threads_law_worked.proofs.Laws.{worked_is_threaded}
use Rattle.fort_threads_law_worked.proofs.worked_is_threaded.Goals as goal

pub returns : goal.returns
returns c = worked_is_threaded
