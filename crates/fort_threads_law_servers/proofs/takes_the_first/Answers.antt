use Rattle.fort_threads_law_servers.proofs.Taking.{takes_the_first}
use Rattle.fort_threads_law_servers.proofs.takes_the_first.Goals as goal

pub returns : goal.returns
returns c = takes_the_first
