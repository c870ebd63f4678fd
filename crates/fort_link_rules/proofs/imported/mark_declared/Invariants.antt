use Rattle.std.proofs.Common.{take}
use Rattle.std.specs.List.{flat_map}
use Rattle.fort_tree.specs.declared.declarations.Declared.{Declared}
use Rattle.fort_link_rules.specs.Imported.{declared_names}
use Rattle.fort_link_rules.specs.Marks.{MarksNames}
use Rattle.fort_link_rules.proofs.imported.mark_declared.Given as goal

abbrev pub invariant-loop-declared : goal.invariant-loop-declared
invariant-loop-declared l =
    MarksNames (flat_map (λ
    (d : Declared). declared_names d.declaration) (take l.declared-index l.declarations))
    l.initial.marks l.marks
