use Rattle.fort_typing_law_rules.proofs.Shaped as shaped
use Rattle.fort_typing_law_rules.proofs.laws.shaped_are_exact.Goals as goal

pub returns : goal.returns
returns c = shaped.shaped_are_exact
