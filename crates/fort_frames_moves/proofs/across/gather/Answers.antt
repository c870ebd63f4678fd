use Rattle.fort_frames_moves.proofs.Found.{node_kept}
use Rattle.fort_frames_moves.proofs.across.gather.Goals as goal

pub returns-in-None-clause-sweeps : goal.returns-in-None-clause-sweeps
returns-in-None-clause-sweeps c = node_kept _ _ c.args.place c.step_of_node.ensures.sweeps
