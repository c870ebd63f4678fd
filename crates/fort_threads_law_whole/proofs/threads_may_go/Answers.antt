use Rattle.fort_threads_law_whole.proofs.MayGoes.{threads_may_go}
use Rattle.fort_threads_law_whole.proofs.threads_may_go.Goals as goal

pub returns : goal.returns
returns c = threads_may_go
