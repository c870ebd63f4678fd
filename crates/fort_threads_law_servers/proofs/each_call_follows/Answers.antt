use Rattle.fort_threads_law_servers.proofs.Calling.{each_call_follows}
use Rattle.fort_threads_law_servers.proofs.each_call_follows.Goals as goal

pub returns : goal.returns
returns c = each_call_follows
