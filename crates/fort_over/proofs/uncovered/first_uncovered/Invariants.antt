use Rattle.fort_over.specs.Walks.{SetsFirst}
use Rattle.fort_over.proofs.uncovered.first_uncovered.Given as goal

abbrev pub invariant-loop-set : goal.invariant-loop-set
invariant-loop-set l = SetsFirst l.table l.members l.set-index l.best
