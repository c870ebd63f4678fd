use Rattle.std.proofs.Common.{◌≡◌, ◌≤◌, ◌-◌, ◌++◌, ◌∷◌, []}
use Rattle.fort_juxt.specs.Loose.{units, applied as applied_right}
use Rattle.fort_juxt.proofs.groupings.applied.Given as goal

abbrev pub invariant-loop-at : goal.invariant-loop-at
invariant-loop-at l = record {
  ordered : l.from ≤ l.at;
  applies : applied_right (units l.at (l.to - l.at) ++ l.fn.argument ∷ []) ≡ l.grouping ∷ [];
}
