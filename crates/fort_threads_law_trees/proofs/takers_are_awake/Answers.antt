use Rattle.fort_threads_law_trees.proofs.Freeing.{takers_are_awake}
use Rattle.fort_threads_law_trees.proofs.takers_are_awake.Goals as goal

pub returns : goal.returns
returns c = takers_are_awake
