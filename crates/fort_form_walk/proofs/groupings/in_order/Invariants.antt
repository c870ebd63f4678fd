use Rattle.fort_form_walk.proofs.Orders.{SoFar}
use Rattle.fort_form_walk.proofs.groupings.in_order.Given as goal

abbrev pub invariant-loop-at : goal.invariant-loop-at
invariant-loop-at l = SoFar l.groups l.at
