use Rattle.fort_tree_law_reread.proofs.Again.{same_tree}
use Rattle.fort_tree_law_reread.proofs.laws.reading_again_gives_the_same_tree.Goals as goal

pub returns : goal.returns
returns c = same_tree
