use Rattle.fort_over.proofs.CoverLaws.{EachBelow}
use Rattle.fort_over.proofs.covering.are_below.Given as goal

abbrev pub invariant-loop-k : goal.invariant-loop-k
invariant-loop-k l = EachBelow l.table l.left l.right l.k
