use Rattle.std.proofs.Common.{sym}
use Rattle.fort_frames_moves.proofs.Parts.{over_passed}
use Rattle.fort_frames_moves.proofs.Found.{unmarked_found}
use Rattle.fort_frames_moves.proofs.across.unmarked_at.Goals as goal

pub returns-then-any_thrown : goal.returns-then-any_thrown
returns-then-any_thrown c =
    over_passed _ _ _ c.requires.own c.requires.is_open c.requires.unmarked
    (sym c.if-any_thrown.ensures)

pub returns : goal.returns
returns c =
    unmarked_found _ _ _ _ c.requires.own c.requires.is_open (sym c.if-any_thrown.ensures)
    c.in_ok-share.ensures
