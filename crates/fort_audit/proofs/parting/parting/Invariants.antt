use Rattle.std.proofs.Common.{◌≡◌, ◌-◌, ◌≤◌, take}
use Rattle.fort_audit.proofs.parting.parting.Given as goal

abbrev pub invariant-loop-at : goal.invariant-loop-at
invariant-loop-at l = record {
  within : l.at ≤ l.shorter;
  shared : take l.at l.one ≡ take l.at l.two;
}

abbrev pub decreases-loop-at : goal.decreases-loop-at
decreases-loop-at l = l.shorter - l.at
