use Rattle.fort_over.proofs.Lists.{at_item}
use Rattle.fort_over.proofs.PlaceLaws.{set_none, set_more}
use Rattle.fort_over.proofs.uncovered.first_of_set.Goals as goal

pub loop-member-init : goal.loop-member-init
loop-member-init c = set_none c.args.table.now c.args.members.now c.args.set.now

pub loop-member-preserved : goal.loop-member-preserved
loop-member-preserved c =
    set_more _ _ _ _ _ _ _ _
    (at_item _ _ _ _ c.as_slice-member-items.ensures c.loop-member-test.true c.member-item.is)
    c.first_of.ensures c.earlier_of-best.ensures c.loop-member.invariant
