use Rattle.std.proofs.Common.{◌≤◌, length, Some, subst, arith}
use Rattle.fort_frames_moves.specs.Turns.{IsNext, IsFoundAt}
use Rattle.fort_frames_moves.proofs.Parts.{found_at, over_next, over_end}
use Rattle.fort_frames_moves.proofs.across.next_part.Goals as goal

pub returns-in-Some : goal.returns-in-Some
returns-in-Some c =
    let k : IsFoundAt c.args.parts.now c.loop-at.«at» (Some c.in-Some.next) =
    subst (IsFoundAt c.args.parts.now c.loop-at.«at») c.in-Some.is c.in_ok-next.ensures in
    found_at c.args.parts.now c.args.from c.loop-at.«at» c.in-Some.next c.loop-at.invariant k.0 k.1

pub loop-at-preserved : goal.loop-at-preserved
loop-at-preserved c =
    over_next c.args.parts.now c.args.from c.loop-at.«at» c.loop-at.invariant
    (subst (IsFoundAt c.args.parts.now c.loop-at.«at») c.in-None.is c.in_ok-next.ensures)

pub returns : goal.returns
returns c =
    over_end c.args.parts.now c.args.from c.loop-at.«at» c.loop-at.invariant
    (omega (arith, c.loop-at-test.false, c.len-at-end.ensures))
