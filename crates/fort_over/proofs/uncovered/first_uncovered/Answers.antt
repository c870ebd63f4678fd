use Rattle.fort_over.proofs.Lists.{at_item}
use Rattle.fort_over.proofs.PlaceLaws.{sets_none, sets_more}
use Rattle.fort_over.proofs.uncovered.first_uncovered.Goals as goal

pub loop-set-init : goal.loop-set-init
loop-set-init c = sets_none c.args.table.now c.args.members.now

pub loop-set-preserved : goal.loop-set-preserved
loop-set-preserved c =
    sets_more _ _ _ _ _ _ _
    (at_item _ _ _ _ c.as_slice-set-items.ensures c.loop-set-test.true c.set-item.is)
    c.first_of_set.ensures c.earlier_of-best.ensures c.loop-set.invariant
