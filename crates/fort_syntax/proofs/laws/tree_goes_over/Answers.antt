use Rattle.fort_syntax.proofs.GoesOver.{goes_over}
use Rattle.fort_syntax.proofs.laws.tree_goes_over.Goals as goal

pub returns : goal.returns
returns c = goes_over
