use Rattle.std.proofs.Common.{◌<◌, ℕ, get_or}
use Rattle.fort_hier.specs.Walks.{LeafAt}
use Rattle.fort_hier.proofs.walks.any_leaf.Given as goal

abbrev pub invariant-loop-b : goal.invariant-loop-b
invariant-loop-b l = (k : ℕ) → k < l.b-index → LeafAt l.types (get_or l.list k 0) → ⊥
