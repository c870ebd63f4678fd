use Rattle.fort_over.specs.Walks.{ObjectsFirst}
use Rattle.fort_over.proofs.uncovered.first_below.Given as goal

abbrev pub invariant-loop-number : goal.invariant-loop-number
invariant-loop-number l = ObjectsFirst l.table l.members l.set l.member l.at l.owner l.number l.best
