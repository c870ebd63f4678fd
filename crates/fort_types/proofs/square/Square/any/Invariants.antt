use Rattle.std.proofs.Common.{◌≡◌, ◌<◌, ℕ, false, slice_index}
use Rattle.fort_types.specs.Square.{bit}
use Rattle.fort_types.proofs.square.Square.any.Given as goal

abbrev pub invariant-loop-a : goal.invariant-loop-a
invariant-loop-a l = (k : ℕ) → k < l.a-index → bit l.self (slice_index l.list k) l.b ≡ false
