use Rattle.fort_over.specs.Walks.{SetFirst}
use Rattle.fort_over.proofs.uncovered.first_of_set.Given as goal

abbrev pub invariant-loop-member : goal.invariant-loop-member
invariant-loop-member l = SetFirst l.table l.members l.set l.member-index l.best
