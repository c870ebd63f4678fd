use Rattle.fort_typing_law_rules.proofs.Beside as besides
use Rattle.fort_typing_law_rules.proofs.laws.beside_is_computed.Goals as goal

pub returns-clause-answered : goal.returns-clause-answered
returns-clause-answered c = besides.beside_is_computed

pub returns-clause-one : goal.returns-clause-one
returns-clause-one c = besides.one_beside
