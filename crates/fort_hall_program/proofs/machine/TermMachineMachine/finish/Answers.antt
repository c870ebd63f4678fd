use Rattle.fort_hall_program.proofs.Machines.{named_finished}
use Rattle.fort_hall_program.proofs.machine.TermMachineMachine.finish.Goals as goal

pub returns-in-Some : goal.returns-in-Some
returns-in-Some g c = named_finished _ _ _ _ _ _ _ _ _ c.self.invariant c.finish.ensures
