use Rattle.fort_over.proofs.BestLaws.{set_none, set_more}
use Rattle.fort_over.proofs.pairs.first_of_set.Goals as goal

pub loop-later-init : goal.loop-later-init
loop-later-init c = set_none c.args.table.now c.args.set.now

pub loop-later-preserved : goal.loop-later-preserved
loop-later-preserved c =
    set_more _ _ _ _ _ _ c.in_ok-next.ensures c.sooner-best.ensures c.loop-later.invariant
