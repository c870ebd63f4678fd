use Rattle.std.proofs.Common.{◌≡◌, ◌+◌, ◌++◌, drop}
use Rattle.fort_frames.proofs.around.rest_from.Given as goal

abbrev pub invariant-loop-i : goal.invariant-loop-i
invariant-loop-i l = l.rest ++ drop l.i l.items ≡ drop (l.«at» + 1) l.items
