use Rattle.std.proofs.Common.{add-one, drop, subst}
use Rattle.std.specs.List.{AllByRecursion}
use Rattle.fort_sound_tables.specs.Threads.{LeavesMember}
use Rattle.fort_sound_tables.proofs.Lists.{one_more_at}
use Rattle.fort_sound_tables.proofs.apart.members_leave.Goals as goal

pub loop-member-preserved : goal.loop-member-preserved
loop-member-preserved c rest =
    c.loop-member.invariant
    (one_more_at (LeavesMember c.args.program.now c.args.x.now) c.args.members.now
    c.loop-member.member-index _ c.loop-member-test.true
    (c.member_leaves.ensures c.if-not-member_leaves.false)
    (subst (λ n. AllByRecursion (LeavesMember c.args.program.now c.args.x.now)
    (drop n c.args.members.now)) (add-one c.loop-member.member-index) rest))
