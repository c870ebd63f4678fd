use Rattle.std.proofs.Common.{refl}
use Rattle.fort_over.proofs.Lists.{at_item}
use Rattle.fort_over.proofs.BestLaws.{sets_none, sets_more}
use Rattle.fort_over.proofs.pairs.first_broken.Goals as goal

pub loop-set-init : goal.loop-set-init
loop-set-init c = sets_none c.args.table.now c.args.sets.now

pub loop-set-preserved : goal.loop-set-preserved
loop-set-preserved c =
    sets_more _ _ _ _ _ _ _ (at_item _ _ _ _ refl c.loop-set-test.true c.set-item.is)
    c.in_ok-next.ensures c.sooner-best.ensures c.loop-set.invariant
