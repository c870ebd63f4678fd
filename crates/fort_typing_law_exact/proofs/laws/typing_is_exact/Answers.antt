use Rattle.fort_typing_law_exact.proofs.Component as component
use Rattle.fort_typing_law_exact.proofs.laws.typing_is_exact.Goals as goal

pub returns-clause-computed : goal.returns-clause-computed
returns-clause-computed c = component.typing_is_exact

pub returns-clause-one : goal.returns-clause-one
returns-clause-one c = component.one_of_two
