use Rattle.fort_frames_moves.proofs.Kept.{left_inside}
use Rattle.fort_frames_moves.proofs.leave.left_in_order.Goals as goal

pub returns-clause-sweeps : goal.returns-clause-sweeps
returns-clause-sweeps c =
    left_inside c.args.below c.args.frame c.args.term _ c.requires.in_order c.in_ok-form.ensures
