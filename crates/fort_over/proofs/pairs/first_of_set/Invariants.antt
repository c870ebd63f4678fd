use Rattle.fort_over.specs.Walks.{SetBest}
use Rattle.fort_over.proofs.pairs.first_of_set.Given as goal

abbrev pub invariant-loop-later : goal.invariant-loop-later
invariant-loop-later l = SetBest l.table l.set l.later l.best
