use Rattle.std.proofs.Common.{◌≡◌, take}
use Rattle.fort_core.proofs.journal.copy_picks.Given as goal

abbrev pub invariant-loop-pick : goal.invariant-loop-pick
invariant-loop-pick l = l.all ≡ take l.pick-index l.pick-items
