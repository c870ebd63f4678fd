use Rattle.std.proofs.Common.{take}
use Rattle.std.specs.List.{flat_map}
use Rattle.fort_link_rules.specs.Imported.{names_declared_in}
use Rattle.fort_link_rules.specs.Marks.{HasMarks}
use Rattle.fort_link_rules.proofs.imported.declared_marks.Given as goal

abbrev pub invariant-loop-unit : goal.invariant-loop-unit
invariant-loop-unit l =
    HasMarks (flat_map names_declared_in (take l.unit-index l.units)) l.marks
