use Rattle.std.proofs.Common.{◌≡◌}
use Rattle.fort_store.specs.Trees.{kept}
use Rattle.fort_store.proofs.tree.Tree.get.Given as goal

abbrev pub invariant-loop-number : goal.invariant-loop-number
invariant-loop-number l = kept l.tree l.number ≡ kept l.initial.tree l.initial.number

abbrev pub decreases-loop-number : goal.decreases-loop-number
decreases-loop-number l = l.number
