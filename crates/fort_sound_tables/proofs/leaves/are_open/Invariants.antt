use Rattle.fort_threads_law_private.specs.Grounds.{AreOpen}
use Rattle.fort_sound_tables.specs.Leaves.{ground_of}
use Rattle.fort_sound_tables.proofs.leaves.are_open.Given as goal

abbrev pub invariant-loop-i : goal.invariant-loop-i
invariant-loop-i l = AreOpen (ground_of l.program l.x) l.from l.i
