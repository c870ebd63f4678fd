use Rattle.std.proofs.Common.{◌≡◌, ◌-◌, ◌∷◌, []}
use Rattle.fort_juxt.specs.Loose.{units, joined as joined_left}
use Rattle.fort_juxt.proofs.groupings.joined.Given as goal

abbrev pub invariant-loop-at : goal.invariant-loop-at
invariant-loop-at l = joined_left (units l.from (l.at - l.from)) ≡ l.grouping ∷ []
