use Rattle.fort_hall_program.proofs.Machines.{named_submitted, own_one}
use Rattle.fort_hall_program.proofs.machine.TermMachineMachine.submit.Goals as goal

pub submit-requires-clause-one : goal.submit-requires-clause-one
submit-requires-clause-one g c = own_one _ _ _ _ _ _ _ _ c.self.invariant

pub returns-clause-good : goal.returns-clause-good
returns-clause-good g c = named_submitted _ _ _ _ _ _ _ _ _ c.self.invariant c.submit.ensures.good
