use Rattle.fort_hall_program.proofs.Machines.{begun, begun_root}
use Rattle.fort_hall_program.proofs.machine.TermMachineMachine.begin.Goals as goal

pub returns-in-None : goal.returns-in-None
returns-in-None g c =
    begun_root _ _ _ c.args.at.now c.root.result c.in-None.is c.root.ensures

pub returns-in-Some : goal.returns-in-Some
returns-in-Some g c =
    begun _ _ _ _ _ _ _ _ c.args.at.now _ c.begin.result c.self.invariant c.in-Some.is
    c.begin.ensures.keeps c.begin.ensures.origin
