use Rattle.std.proofs.Common.{Some, subst}
use Rattle.fort_frames_moves.specs.Turns.{IsFound}
use Rattle.fort_frames_moves.proofs.Kept.{opened_kept}
use Rattle.fort_frames_moves.proofs.enter.enter_group.Goals as goal

pub returns-in-Some-clause-sweeps : goal.returns-in-Some-clause-sweeps
returns-in-Some-clause-sweeps c =
    let k : IsFound c.args.parts 0 (Some c.in-Some.next) =
    subst (IsFound c.args.parts 0) c.in-Some.is c.in_ok-next.ensures in
    opened_kept c.enter_open_group.result c.args.place c.args.parts c.in-Some.next.«at» k.1
    c.enter_open_group.ensures.sweeps
