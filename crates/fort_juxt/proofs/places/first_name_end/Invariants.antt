use Rattle.std.proofs.Common.{◌≡◌, ℕ, ◌<◌, false, drop}
use Rattle.fort_juxt.specs.Loose.{name_ends}
use Rattle.fort_juxt.proofs.places.first_name_end.Given as goal

abbrev pub invariant-loop-at : goal.invariant-loop-at
invariant-loop-at l = (k : ℕ) → k < l.at → name_ends (drop k l.elements) ≡ false
