use Rattle.std.proofs.Common.{sym}
use Rattle.fort_tree.specs.Limits.{measured_object_member}
use Rattle.fort_tree_limits.proofs.EarliestLaws.{earliest_none, one_more}
use Rattle.fort_tree_limits.proofs.walk.Walk.object_members.Goals as goal

pub loop-entry-init : goal.loop-entry-init
loop-entry-init c = sym (earliest_none _)

pub loop-entry-preserved : goal.loop-entry-preserved
loop-entry-preserved c =
    one_more (λ e. measured_object_member e.member) c.as_slice-entry-items.result.now
    c.loop-entry.entry-index c.entry-item.result c.args.self.now.earliest c.loop-entry.self.earliest
    c.object_member.new.self.earliest c.loop-entry-test.true c.entry-item.is c.loop-entry.invariant
    c.object_member.ensures
