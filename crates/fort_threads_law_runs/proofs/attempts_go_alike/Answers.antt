use Rattle.fort_threads_law_runs.proofs.Going.{attempts_go_alike}
use Rattle.fort_threads_law_runs.proofs.attempts_go_alike.Goals as goal

pub returns : goal.returns
returns c = attempts_go_alike
