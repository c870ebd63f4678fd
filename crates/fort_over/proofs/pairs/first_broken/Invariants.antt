use Rattle.fort_over.specs.Walks.{SetsBest}
use Rattle.fort_over.proofs.pairs.first_broken.Given as goal

abbrev pub invariant-loop-set : goal.invariant-loop-set
invariant-loop-set l = SetsBest l.table l.sets l.set-index l.best
