use Rattle.std.proofs.Common.{◌≡◌, ℕ, ◌<◌, false, drop}
use Rattle.fort_juxt.specs.Tight.{postfix_first}
use Rattle.fort_juxt.proofs.places.first_postfix.Given as goal

abbrev pub invariant-loop-at : goal.invariant-loop-at
invariant-loop-at l = (k : ℕ) → k < l.at → postfix_first (drop k l.elements) ≡ false
