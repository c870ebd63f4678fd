use Rattle.fort_types.specs.Types.{Apart}
use Rattle.fort_over_pair.proofs.Places.{NoneTo}
use Rattle.fort_over_pair.proofs.order.apart_somewhere.Given as goal

abbrev pub invariant-loop-i : goal.invariant-loop-i
invariant-loop-i l = NoneTo l.table Apart l.left l.right l.i
