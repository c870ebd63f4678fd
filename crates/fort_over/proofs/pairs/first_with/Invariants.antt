use Rattle.fort_over.specs.Walks.{RowBest}
use Rattle.fort_over.proofs.pairs.first_with.Given as goal

abbrev pub invariant-loop-earlier : goal.invariant-loop-earlier
invariant-loop-earlier l = RowBest l.table l.set l.later l.earlier l.best
