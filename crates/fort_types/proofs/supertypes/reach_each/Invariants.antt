use Rattle.fort_types.specs.Supertypes.{ReachesEach}
use Rattle.fort_types.proofs.supertypes.reach_each.Given as goal

abbrev pub invariant-loop-b : goal.invariant-loop-b
invariant-loop-b l = ReachesEach l.list l.b-index l.initial.row l.row l.initial.found l.found
