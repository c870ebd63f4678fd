use Rattle.fort_threads_law_whole.proofs.ThreadPicks.{threads_go_on}
use Rattle.fort_threads_law_whole.proofs.threads_go_on.Goals as goal

pub returns : goal.returns
returns c = threads_go_on
