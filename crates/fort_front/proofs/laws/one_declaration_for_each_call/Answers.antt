use Rattle.fort_front.proofs.Called.{exactly_one_called, never_abstract_called}
use Rattle.fort_front.proofs.laws.one_declaration_for_each_call.Goals as goal

pub returns-clause-one : goal.returns-clause-one
returns-clause-one c = exactly_one_called

pub returns-clause-concrete : goal.returns-clause-concrete
returns-clause-concrete c = never_abstract_called
