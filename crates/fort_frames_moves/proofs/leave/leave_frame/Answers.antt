use Rattle.fort_frames_moves.proofs.Found.{node_value}
use Rattle.fort_frames_moves.proofs.leave.leave_frame.Goals as goal

pub returns-in_ok-part-in-Node-clause-sweeps : goal.returns-in_ok-part-in-Node-clause-sweeps
returns-in_ok-part-in-Node-clause-sweeps c =
    node_value c.back.result _ c.in-Node.node c.args.below _ c.args.value c.in-Node.is
    c.in_ok-part-in-Node.ensures c.back.ensures.sweeps
