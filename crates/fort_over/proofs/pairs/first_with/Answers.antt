use Rattle.std.proofs.Common.{length, ap, arith}
use Rattle.fort_over.proofs.Lists.{at_item}
use Rattle.fort_over.proofs.BestLaws.{row_none, row_more}
use Rattle.fort_over.proofs.pairs.first_with.Goals as goal

pub loop-earlier-init : goal.loop-earlier-init
loop-earlier-init c = row_none c.args.table.now c.args.set.now c.args.later

pub loop-earlier-preserved : goal.loop-earlier-preserved
loop-earlier-preserved c = row_more _ _ _ _ _ _ _ _ _
    (at_item _ _ _ _ c.as_slice-members.ensures (let e = ap length c.as_slice-members.ensures
    in omega arith) c.index-members-earlier.is)
    (at_item _ _ _ _ c.as_slice-members.ensures (let e = ap length c.as_slice-members.ensures
    in omega arith) c.index-members-later.is)
    c.loop-earlier-test.true c.in_ok-next.ensures c.sooner-best.ensures c.loop-earlier.invariant
