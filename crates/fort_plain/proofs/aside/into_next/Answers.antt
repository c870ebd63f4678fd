use Rattle.std.proofs.Common.{refl}
use Rattle.fort_frames_moves.proofs.Parts.{entered}
use Rattle.fort_plain.proofs.aside.into_next.Goals as goal

pub returns : goal.returns
returns c =
    entered c.args.clock c.args.below _ _ c.args.next.part c.requires.next refl c.requires.reached
    c.in_ok-place.ensures
