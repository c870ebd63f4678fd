use Rattle.std.proofs.Common.{length, ◌-◌, ◌≤◌, take, drop}
use Rattle.fort_juxt.specs.Loose.{AreFunctions}
use Rattle.fort_juxt.proofs.chunks.run_end.Given as goal

abbrev pub invariant-loop-at : goal.invariant-loop-at
invariant-loop-at l = record {
  ordered : l.from ≤ l.at;
  within : l.at ≤ length l.elements;
  each : AreFunctions l.function (take (l.at - l.from) (drop l.from l.elements));
}

abbrev pub decreases-loop-at : goal.decreases-loop-at
decreases-loop-at l = length l.elements - l.at
