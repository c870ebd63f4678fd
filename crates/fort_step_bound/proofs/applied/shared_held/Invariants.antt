use Rattle.std.proofs.Common.{◌≡◌, take}
use Rattle.fort_step_bound.proofs.applied.shared_held.Given as goal

abbrev pub invariant-loop-pair : goal.invariant-loop-pair
invariant-loop-pair l = l.all ≡ take l.pair-index l.pair-items
