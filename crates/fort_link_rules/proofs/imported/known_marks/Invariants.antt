use Rattle.std.proofs.Common.{◌++◌, take}
use Rattle.std.specs.List.{flat_map}
use Rattle.fort_link_rules.specs.Imported.{names_declared, names_imported_from}
use Rattle.fort_link_rules.specs.Marks.{HasMarks}
use Rattle.fort_link_rules.proofs.imported.known_marks.Given as goal

abbrev pub invariant-loop-unit : goal.invariant-loop-unit
invariant-loop-unit l =
    HasMarks (names_declared l.component.parsed.component
    ++ flat_map (names_imported_from l.component) (take l.unit-index l.units)) l.marks
