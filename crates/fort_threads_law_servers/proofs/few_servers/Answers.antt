use Rattle.fort_threads_law_servers.proofs.Few.{few_servers}
use Rattle.fort_threads_law_servers.proofs.few_servers.Goals as goal

pub returns : goal.returns
returns c = few_servers
