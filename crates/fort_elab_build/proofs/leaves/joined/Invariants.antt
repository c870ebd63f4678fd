use Rattle.std.proofs.Common.{◌≡◌, [], ◌∷◌, ◌++◌, length}
use Rattle.fort_elab_meaning.specs.Calls.{joined}
use Rattle.fort_elab_build.proofs.leaves.joined.Given as goal

abbrev pub invariant-terms : goal.invariant-terms
invariant-terms l = joined l.set (l.terms ++ l.last ∷ []) ≡ joined l.set l.fn.terms

abbrev pub decreases-terms : goal.decreases-terms
decreases-terms l = length l.terms
