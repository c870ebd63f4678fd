use Rattle.fort_syntax.proofs.Theorem.{at_most_one}
use Rattle.fort_syntax.proofs.laws.at_most_one_tree.Goals as goal

pub returns : goal.returns
returns c = at_most_one
