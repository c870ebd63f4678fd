use Rattle.fort_over_pair.proofs.Covered.{NoneCovers}
use Rattle.fort_over_pair.proofs.covering.is_covered.Given as goal

abbrev pub invariant-loop-other : goal.invariant-loop-other
invariant-loop-other l = NoneCovers l.table l.members l.first l.second l.types l.other-index
