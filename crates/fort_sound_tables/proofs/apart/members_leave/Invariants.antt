use Rattle.std.proofs.Common.{drop}
use Rattle.std.specs.List.{AllByRecursion}
use Rattle.fort_sound_tables.specs.Threads.{LeavesMember}
use Rattle.fort_sound_tables.proofs.apart.members_leave.Given as goal

abbrev pub invariant-loop-member : goal.invariant-loop-member
invariant-loop-member l =
    AllByRecursion (LeavesMember l.program l.x) (drop l.member-index l.members)
    → AllByRecursion (LeavesMember l.program l.x) l.members
