use Rattle.fort_threads_law_trees.proofs.Leaving.{leaves_stand_apart}
use Rattle.fort_threads_law_trees.proofs.leaves_stand_apart.Goals as goal

pub returns : goal.returns
returns c = leaves_stand_apart
