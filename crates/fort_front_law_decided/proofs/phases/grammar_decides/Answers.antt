use Rattle.fort_front_law_decided.proofs.Grammars.{component_or_break}
use Rattle.fort_front_law_decided.proofs.phases.grammar_decides.Goals as goal

pub returns : goal.returns
returns c = component_or_break c.at_most_one_tree.ensures
