use Rattle.fort_form_walk.proofs.Orders.{NoneBefore}
use Rattle.fort_form_walk.proofs.groupings.first_at.Given as goal

abbrev pub invariant-loop-group : goal.invariant-loop-group
invariant-loop-group l = NoneBefore l.groups l.place l.group-index
