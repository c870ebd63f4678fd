use Rattle.fort_front.proofs.Apart.{never_in_grammar}
use Rattle.fort_front.proofs.laws.never_both_in_grammar.Goals as goal

pub returns : goal.returns
returns c = never_in_grammar
