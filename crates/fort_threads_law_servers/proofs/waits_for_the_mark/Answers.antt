use Rattle.fort_threads_law_servers.proofs.Taking.{waits_for_the_mark}
use Rattle.fort_threads_law_servers.proofs.waits_for_the_mark.Goals as goal

pub returns : goal.returns
returns c = waits_for_the_mark
