use Rattle.fort_typing_law_rules.proofs.Juxtaposing as juxtaposing
use Rattle.fort_typing_law_rules.proofs.laws.juxtaposition_is_computed.Goals as goal

pub returns-clause-rewriting : goal.returns-clause-rewriting
returns-clause-rewriting c = juxtaposing.rewriting_is_computed

pub returns-clause-grouping : goal.returns-clause-grouping
returns-clause-grouping c = juxtaposing.grouping_is_computed
