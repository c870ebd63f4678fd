use Rattle.fort_threads_law_servers.proofs.Server.{each_pick_follows}
use Rattle.fort_threads_law_servers.proofs.each_pick_follows.Goals as goal

pub returns : goal.returns
returns c = each_pick_follows
