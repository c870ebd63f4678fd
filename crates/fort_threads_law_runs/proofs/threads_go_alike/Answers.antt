use Rattle.fort_threads_law_runs.proofs.Going.{threads_go_alike}
use Rattle.fort_threads_law_runs.proofs.threads_go_alike.Goals as goal

pub returns : goal.returns
returns c = threads_go_alike
