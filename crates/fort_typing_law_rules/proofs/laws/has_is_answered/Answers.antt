use Rattle.fort_typing_law_rules.proofs.Answered as answered
use Rattle.fort_typing_law_rules.proofs.laws.has_is_answered.Goals as goal

pub returns-clause-answered : goal.returns-clause-answered
returns-clause-answered c = answered.has_is_answered

pub returns-clause-one : goal.returns-clause-one
returns-clause-one c = answered.one_typed_form
