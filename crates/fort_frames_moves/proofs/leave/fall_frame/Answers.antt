use Rattle.std.proofs.Common.{ap, ◌∙◌}
use Rattle.fort_core.specs.declared.term.Term as term
use Rattle.fort_frames_moves.proofs.Found.{node_throw}
use Rattle.fort_frames_moves.proofs.leave.fall_frame.Goals as goal

pub returns-in_ok-part-in-Node-clause-sweeps : goal.returns-in_ok-part-in-Node-clause-sweeps
returns-in_ok-part-in-Node-clause-sweeps c =
    node_throw c.back.result _ c.in-Node.node c.args.below _ c.args.thrown c.in-Node.is
    (c.in_ok-part-in-Node.ensures
    ∙ ap term.Throw c.in_ok-value-in-Node.ensures) c.back.ensures.sweeps
