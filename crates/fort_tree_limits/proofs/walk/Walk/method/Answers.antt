use Rattle.fort_tree_limits.proofs.DeclarationWalks.{method_walks}
use Rattle.fort_tree_limits.proofs.walk.Walk.method.Goals as goal

pub returns : goal.returns
returns c = rw method_walks (cc)
