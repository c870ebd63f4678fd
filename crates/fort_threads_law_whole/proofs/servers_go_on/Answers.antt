use Rattle.fort_threads_law_whole.proofs.Serving.{servers_go_on}
use Rattle.fort_threads_law_whole.proofs.servers_go_on.Goals as goal

pub returns : goal.returns
returns c = servers_go_on
