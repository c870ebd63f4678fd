use Rattle.std.proofs.Common.{drop}
use Rattle.std.specs.List.{AllByRecursion}
use Rattle.fort_sound_tables.specs.Threads.{LeavesPair}
use Rattle.fort_sound_tables.proofs.apart.opening_leaves.Given as goal

abbrev pub invariant-loop-pair : goal.invariant-loop-pair
invariant-loop-pair l =
    AllByRecursion (LeavesPair l.program l.x) (drop l.pair-index l.opening)
    → AllByRecursion (LeavesPair l.program l.x) l.opening
