use Rattle.fort_threads_law_trees.proofs.Lifting.{threads_are_awake}
use Rattle.fort_threads_law_trees.proofs.threads_are_awake.Goals as goal

pub returns : goal.returns
returns c = threads_are_awake
