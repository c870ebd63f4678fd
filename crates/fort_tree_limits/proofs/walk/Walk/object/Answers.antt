use Rattle.fort_tree_limits.proofs.DeclarationWalks.{object_walks}
use Rattle.fort_tree_limits.proofs.walk.Walk.object.Goals as goal

pub returns : goal.returns
returns c = rw object_walks (cc)
