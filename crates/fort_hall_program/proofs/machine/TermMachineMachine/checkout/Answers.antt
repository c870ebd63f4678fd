use Rattle.fort_hall_program.proofs.Machines.{named_found, own_one}
use Rattle.fort_hall_program.proofs.machine.TermMachineMachine.checkout.Goals as goal

pub lend-requires-clause-one : goal.lend-requires-clause-one
lend-requires-clause-one g c = own_one _ _ _ _ _ _ _ _ c.self.invariant

pub returns-clause-good : goal.returns-clause-good
returns-clause-good g c = named_found _ _ _ _ _ _ _ _ _ c.self.invariant c.lend.ensures.good
