use Rattle.fort_walk_course.proofs.Before.{AllPast}
use Rattle.fort_walk_course.proofs.first.fresh_from.Given as goal

abbrev pub invariant-loop-entry : goal.invariant-loop-entry
invariant-loop-entry l = AllPast l.entry-items l.entry-index l.fresh
