use Rattle.std.proofs.Common.{◌≡◌, ◌++◌, drop}
use Rattle.fort_elab_meaning.specs.Programs.{core_sets}
use Rattle.fort_elab.proofs.sets.core_sets.Given as goal

abbrev pub invariant-loop-set : goal.invariant-loop-set
invariant-loop-set l = l.list ++ core_sets l.next (drop l.set-index l.sets) ≡ core_sets 0 l.sets
