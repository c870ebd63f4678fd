use Rattle.std.proofs.Common.{◌≡◌, drop, map}
use Rattle.std.specs.List.{find}
use Rattle.fort_machine.specs.Types.{type_of}
use Rattle.fort_disp_plain.specs.Asked.{wins}
use Rattle.fort_disp_plain.proofs.finding.winner.Given as goal

abbrev pub invariant-loop-number : goal.invariant-loop-number
invariant-loop-number l =
    find (wins l.program l.members (map (type_of l.program) l.values)) l.members
    ≡ find (wins l.program l.members (map (type_of l.program) l.values))
    (drop l.number-index l.members)
