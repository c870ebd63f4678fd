use Rattle.fort_threads_law_whole.proofs.MayGoes.{first_may_go}
use Rattle.fort_threads_law_whole.proofs.first_may_go.Goals as goal

pub returns : goal.returns
returns c = first_may_go
