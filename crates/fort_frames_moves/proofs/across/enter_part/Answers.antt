use Rattle.std.proofs.Common.{refl}
use Rattle.fort_frames_moves.proofs.Parts.{entered}
use Rattle.fort_frames_moves.proofs.Kept.{entered_kept}
use Rattle.fort_frames_moves.proofs.across.enter_part.Goals as goal

pub returns-clause-turns : goal.returns-clause-turns
returns-clause-turns c =
    entered c.args.clock c.args.place _ _ c.args.next.part c.requires.next refl c.requires.reached
    c.in_ok-enter.ensures

pub returns-clause-sweeps : goal.returns-clause-sweeps
returns-clause-sweeps c =
    entered_kept c.args.place _ _ c.args.next.part c.requires.next c.in_ok-enter.ensures
