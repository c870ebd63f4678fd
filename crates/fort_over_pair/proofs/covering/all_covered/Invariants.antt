use Rattle.fort_over_pair.proofs.Covered.{CoveredTo}
use Rattle.fort_over_pair.proofs.covering.all_covered.Given as goal

abbrev pub invariant-loop-types : goal.invariant-loop-types
invariant-loop-types l = CoveredTo l.table l.members l.first l.second l.choices l.types-index
