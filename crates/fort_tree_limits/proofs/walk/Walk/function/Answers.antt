use Rattle.fort_tree_limits.proofs.DeclarationWalks.{function_walks}
use Rattle.fort_tree_limits.proofs.walk.Walk.function.Goals as goal

pub returns : goal.returns
returns c = rw function_walks (cc)
