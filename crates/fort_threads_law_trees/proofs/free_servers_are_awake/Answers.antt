use Rattle.fort_threads_law_trees.proofs.Freeing.{free_servers_are_awake}
use Rattle.fort_threads_law_trees.proofs.free_servers_are_awake.Goals as goal

pub returns : goal.returns
returns c = free_servers_are_awake
