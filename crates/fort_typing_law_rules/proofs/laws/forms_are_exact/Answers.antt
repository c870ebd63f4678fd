use Rattle.fort_typing_law_rules.proofs.Exactly as exactly
use Rattle.fort_typing_law_rules.proofs.laws.forms_are_exact.Goals as goal

pub returns-clause-steps : goal.returns-clause-steps
returns-clause-steps c = exactly.forms_are_exact

pub returns-clause-one : goal.returns-clause-one
returns-clause-one c = exactly.exact_is_one
