use Rattle.fort_hall_program.proofs.Machines.{rooted}
use Rattle.fort_hall_program.proofs.machine.TermMachineMachine.root.Goals as goal

pub returns : goal.returns
returns g c =
    rooted _ _ _ _ _ _ _ _ _ _ _ c.self.invariant c.in_ok-view.ensures c.in_ok-first.ensures
    c.new.ensures
