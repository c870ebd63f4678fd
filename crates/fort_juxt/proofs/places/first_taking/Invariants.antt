use Rattle.std.proofs.Common.{◌≡◌, ℕ, ◌<◌, false, drop}
use Rattle.fort_juxt.specs.Tight.{takes}
use Rattle.fort_juxt.proofs.places.first_taking.Given as goal

abbrev pub invariant-loop-at : goal.invariant-loop-at
invariant-loop-at l = (k : ℕ) → k < l.at → takes (drop k l.elements) ≡ false
