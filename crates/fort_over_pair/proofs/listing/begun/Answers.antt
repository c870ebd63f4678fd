use Rattle.fort_over_pair.proofs.Products.{ways_more}
use Rattle.fort_over_pair.proofs.listing.begun.Goals as goal

pub loop-first-preserved : goal.loop-first-preserved
loop-first-preserved c =
    ways_more c.args.rests.now c.args.firsts.now c.loop-first.first-index c.first-item.result _ _
    c.loop-first-test.true c.first-item.is
    c.loop-first.invariant c.in_ok-push_ways.ensures
