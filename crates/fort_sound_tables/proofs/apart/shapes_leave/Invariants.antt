use Rattle.std.proofs.Common.{ℕ, ◌<◌}
use Rattle.fort_sound_tables.specs.Threads.{LeavesShape}
use Rattle.fort_sound_tables.proofs.apart.shapes_leave.Given as goal

abbrev pub invariant-loop-i : goal.invariant-loop-i
invariant-loop-i l = (k : ℕ) → k < l.i → LeavesShape l.program l.x k
