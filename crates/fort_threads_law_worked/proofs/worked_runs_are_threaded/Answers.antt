use Rattle.fort_threads_law_worked.proofs.Laws.{worked_runs_are_threaded}
use Rattle.fort_threads_law_worked.proofs.worked_runs_are_threaded.Goals as goal

pub returns : goal.returns
returns c = worked_runs_are_threaded
