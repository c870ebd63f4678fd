use Rattle.fort_typing_law_ready.proofs.Ready.{component_exact, component_one}
use Rattle.fort_typing_law_ready.proofs.laws.component_is_exact.Goals as goal

pub returns-clause-computed : goal.returns-clause-computed
returns-clause-computed c =
    component_exact c.forms_are_ready.ensures c.typing_is_exact.ensures.computed

pub returns-clause-one : goal.returns-clause-one
returns-clause-one c = component_one c.forms_are_ready.ensures c.typing_is_exact.ensures.one
