use Rattle.fort_typing_law_rules.proofs.Wide as wide
use Rattle.fort_typing_law_rules.proofs.laws.widest_is_computed.Goals as goal

pub returns : goal.returns
returns c = wide.widest_is_computed
