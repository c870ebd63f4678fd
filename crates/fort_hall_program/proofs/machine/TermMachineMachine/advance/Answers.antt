use Rattle.fort_hall_program.proofs.Machines.{named_made}
use Rattle.fort_hall_program.proofs.machine.TermMachineMachine.advance.Goals as goal

pub returns : goal.returns
returns g c = named_made _ _ _ _ _ _ _ _ _ c.self.invariant c.advance.ensures
