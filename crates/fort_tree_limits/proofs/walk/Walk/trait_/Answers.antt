use Rattle.fort_tree_limits.proofs.DeclarationWalks.{trait_walks}
use Rattle.fort_tree_limits.proofs.walk.Walk.trait_.Goals as goal

pub returns : goal.returns
returns c = rw trait_walks (cc)
