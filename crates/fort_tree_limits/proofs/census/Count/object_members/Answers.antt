use Rattle.std.proofs.Common.{sym}
use Rattle.fort_tree.specs.Limits.{measured_object_member}
use Rattle.fort_tree_limits.proofs.CensusLaws.{counted_none, one_more_place}
use Rattle.fort_tree_limits.proofs.census.Count.object_members.Goals as goal

pub loop-entry-init : goal.loop-entry-init
loop-entry-init c = sym (counted_none _)

pub loop-entry-preserved : goal.loop-entry-preserved
loop-entry-preserved c =
    one_more_place (λ e. (measured_object_member e.member).spot.place)
    c.as_slice-entry-items.result.now c.loop-entry.entry-index c.entry-item.result c.args.self.now
    c.loop-entry.self c.see.new.self c.loop-entry-test.true c.entry-item.is c.loop-entry.invariant
    (cc)
