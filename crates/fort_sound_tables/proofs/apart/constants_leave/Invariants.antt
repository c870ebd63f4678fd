use Rattle.std.proofs.Common.{drop}
use Rattle.std.specs.List.{AllByRecursion}
use Rattle.fort_sound_tables.specs.Threads.{LeavesField}
use Rattle.fort_sound_tables.proofs.apart.constants_leave.Given as goal

abbrev pub invariant-loop-field : goal.invariant-loop-field
invariant-loop-field l =
    AllByRecursion (LeavesField l.program l.x) (drop l.field-index l.fields)
    → AllByRecursion (LeavesField l.program l.x) l.fields
