use Rattle.std.proofs.Common.{◌≡◌, drop, map}
use Rattle.std.specs.List.{list_all}
use Rattle.fort_machine.specs.Types.{type_of}
use Rattle.fort_disp_plain.specs.Asked.{is_other}
use Rattle.fort_disp_plain.proofs.finding.is_sole.Given as goal

abbrev pub invariant-loop-other : goal.invariant-loop-other
invariant-loop-other l =
    list_all (is_other l.program l.members (map (type_of l.program) l.values) l.number) l.members
    ≡ list_all (is_other l.program l.members (map (type_of l.program) l.values) l.number)
    (drop l.other-index l.members)
