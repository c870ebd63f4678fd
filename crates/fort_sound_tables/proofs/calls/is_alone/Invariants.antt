use Rattle.std.proofs.Common.{drop}
use Rattle.std.specs.List.{AllByRecursion}
use Rattle.fort_sound_tables.specs.Lookups.{GivesWay}
use Rattle.fort_sound_tables.proofs.calls.is_alone.Given as goal

abbrev pub invariant-loop-member : goal.invariant-loop-member
invariant-loop-member l =
    AllByRecursion (GivesWay l.program l.types l.number l.declared) (drop l.member-index l.members)
    → AllByRecursion (GivesWay l.program l.types l.number l.declared) l.members
