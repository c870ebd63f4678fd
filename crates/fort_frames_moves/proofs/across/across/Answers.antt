use Rattle.std.proofs.Common.{Some, None, length, subst}
use Rattle.fort_frames_moves.specs.Turns.{IsNext, AreOver, IsFound}
use Rattle.fort_frames_moves.proofs.Kept.{across_kept}
use Rattle.fort_frames_moves.proofs.across.across.Goals as goal

pub returns-in-Some-clause-sweeps : goal.returns-in-Some-clause-sweeps
returns-in-Some-clause-sweeps c =
    let k : IsFound c.args.parts c.args.from (Some c.in-Some.next) =
    subst (IsFound c.args.parts c.args.from) c.in-Some.is c.in_ok-next.ensures in
    across_kept c.enter_part.result c.args.place c.args.parts c.args.from c.in-Some.next.«at» k.1
    c.enter_part.ensures.sweeps

pub returns-in-None-clause-sweeps : goal.returns-in-None-clause-sweeps
returns-in-None-clause-sweeps c =
    let k : IsFound c.args.parts c.args.from None =
    subst (IsFound c.args.parts c.args.from) c.in-None.is c.in_ok-next.ensures in
    across_kept c.gather.result c.args.place c.args.parts c.args.from (length c.args.parts) k
    c.gather.ensures.sweeps
