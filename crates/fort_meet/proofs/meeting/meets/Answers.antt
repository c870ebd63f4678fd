use Rattle.fort_meet.proofs.ByRows.{found}
use Rattle.fort_meet.proofs.meeting.meets.Goals as goal

pub returns : goal.returns
returns c =
    found _ _ _ _ _ _ _ c.as_slice-rows.ensures c.as_slice.ensures c.in_ok-common.ensures
    c.highest.ensures
