use Rattle.fort_frames_moves.proofs.Enters.{throw_ready}
use Rattle.fort_frames_moves.proofs.leave.step_of_throw.Goals as goal

pub returns-clause-turns : goal.returns-clause-turns
returns-clause-turns c =
    throw_ready c.args.clock c.args.frame c.args.thrown c.args.below c.requires.in_order
    c.requires.reached
