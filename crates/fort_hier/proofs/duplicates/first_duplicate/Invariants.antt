use Rattle.fort_hier.proofs.NamesWalk.{Walked}
use Rattle.fort_hier.proofs.duplicates.first_duplicate.Given as goal

abbrev pub invariant-loop-top : goal.invariant-loop-top
invariant-loop-top l = Walked l.names l.tops l.top-index l.seen l.best
