use Rattle.fort_frames_moves.proofs.Found.{back_set}
use Rattle.fort_frames_moves.proofs.leave.back.Goals as goal

pub returns-clause-sweeps : goal.returns-clause-sweeps
returns-clause-sweeps c =
    back_set c.across.result c.args.below c.args.node c.args.part _ _ _ c.in_ok-part.ensures
    c.set.ensures c.across.ensures.sweeps
