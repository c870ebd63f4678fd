use Rattle.fort_frames.specs.Frames.{frames}
use Rattle.fort_frames_moves.specs.Sweeps.{Swept}
use Rattle.fort_walk_turns.proofs.Past.{picked_form}
use Rattle.fort_walk_turns.proofs.next.picked.Goals as goal

pub at_form-requires : goal.at_form-requires
at_form-requires c =
    picked_form c.args.program.now c.args.course c.picked.result c.args.place c.args.form
    (λ met. Swept met (frames c.args.place.stack)) c.requires c.picked.ensures.idle
    c.picked.ensures.wakes
