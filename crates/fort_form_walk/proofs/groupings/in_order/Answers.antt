use Rattle.std.proofs.Common.{refl}
use Rattle.fort_form_walk.proofs.Orders.{none_asked, one_further, all_in_order}
use Rattle.fort_form_walk.proofs.groupings.in_order.Goals as goal

pub loop-at-init : goal.loop-at-init
loop-at-init c = none_asked _

pub loop-at-preserved : goal.loop-at-preserved
loop-at-preserved c =
    one_further c.args.groups.now c.loop-at.at c.loop-at.invariant
    (c.if-not-goes_before.ensures refl)

pub returns : goal.returns
returns c =
    λ t. all_in_order c.args.groups.now c.loop-at.at c.loop-at.invariant c.loop-at-test.false
