use Rattle.std.proofs.Common.{◌≡◌, drop, map}
use Rattle.std.specs.List.{list_all}
use Rattle.fort_machine.specs.Types.{type_of}
use Rattle.fort_disp_plain.specs.Asked.{gives_way}
use Rattle.fort_disp_plain.proofs.asking.is_over.Given as goal

abbrev pub invariant-loop-other : goal.invariant-loop-other
invariant-loop-other l =
    list_all (gives_way l.program (map (type_of l.program) l.values) l.decl l.number) l.members
    ≡ list_all (gives_way l.program (map (type_of l.program) l.values) l.decl l.number)
    (drop l.other-index l.members)
