use Rattle.std.proofs.Common.{ℕ, ◌<◌, slice_get}
use Rattle.fort_store_effects.proofs.Behind.{IsBelow}
use Rattle.fort_store_effects.proofs.layer.Layer.bound.Given as goal

abbrev pub invariant-loop-i : goal.invariant-loop-i
invariant-loop-i l = (j : ℕ) → j < l.i → IsBelow (slice_get l.self.cells.entries j) l.bound
