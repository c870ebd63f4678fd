use Rattle.fort_over_pair.proofs.Counted.{ListsSoFar}
use Rattle.fort_over_pair.proofs.listing.+list.Given as goal

abbrev pub invariant-list_each-loop-i : goal.invariant-list_each-loop-i
invariant-list_each-loop-i l = ListsSoFar l.table l.left l.right l.i l.lists
