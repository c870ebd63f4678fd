use Rattle.std.proofs.Common.{◌≡◌, ◌+◌, Some, length}
use Rattle.std.specs.Prelude.{slice_get}
use Rattle.fort_frames.specs.Frames.{frames}
use Rattle.fort_frames_moves.proofs.Found.{operand_reach, operand_turn}
use Rattle.fort_frames_moves.proofs.leave.next_operand.Goals as goal

pub into-requires-clause-reached : goal.into-requires-clause-reached
into-requires-clause-reached c =
    let e : slice_get c.args.operands (length c.args.values + 1) ≡ Some c.in-Some.next =
    cc (c.in_ok-share_at.ensures, c.in-Some.is, c.len.ensures) in
    operand_reach c.args.clock c.args.set c.args.values _ c.args.operands c.args.value
    c.in-Some.next (frames c.args.below.stack) e c.in_ok-push-in-Some.ensures.ok
    c.requires.reached

pub returns-in_ok-push-in-Some-clause-turns : goal.returns-in_ok-push-in-Some-clause-turns
returns-in_ok-push-in-Some-clause-turns c =
    let e : slice_get c.args.operands (length c.args.values + 1) ≡ Some c.in-Some.next =
    cc (c.in_ok-share_at.ensures, c.in-Some.is, c.len.ensures) in
    operand_turn c.into.result c.args.clock c.args.set c.args.values _ c.args.operands c.args.value
    c.in-Some.next (frames c.args.below.stack) e c.in_ok-push-in-Some.ensures.ok
    c.into.ensures.turns
