use Rattle.fort_frames_moves.proofs.Enters.{value_ready}
use Rattle.fort_frames_moves.proofs.leave.step_of_value.Goals as goal

pub returns-clause-turns : goal.returns-clause-turns
returns-clause-turns c =
    value_ready c.args.clock c.args.frame c.args.value c.args.below c.requires.in_order
    c.requires.last c.requires.reached
