use Rattle.std.proofs.Common.{ℕ, ◌<◌}
use Rattle.fort_sound_tables.specs.Threads.{LeavesSet}
use Rattle.fort_sound_tables.proofs.apart.sets_leave.Given as goal

abbrev pub invariant-loop-i : goal.invariant-loop-i
invariant-loop-i l = (k : ℕ) → k < l.i → LeavesSet l.program l.x k
