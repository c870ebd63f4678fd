use Rattle.fort_typing_law_rules.proofs.Running as running
use Rattle.fort_typing_law_rules.proofs.laws.run_is_computed.Goals as goal

pub returns-clause-answered : goal.returns-clause-answered
returns-clause-answered c = running.run_is_computed

pub returns-clause-one : goal.returns-clause-one
returns-clause-one c = running.one_run
