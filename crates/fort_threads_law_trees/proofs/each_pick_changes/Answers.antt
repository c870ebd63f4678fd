use Rattle.fort_threads_law_trees.proofs.Changing.{each_pick_changes}
use Rattle.fort_threads_law_trees.proofs.each_pick_changes.Goals as goal

pub returns : goal.returns
returns c = each_pick_changes
