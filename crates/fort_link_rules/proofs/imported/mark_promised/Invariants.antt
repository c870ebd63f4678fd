use Rattle.std.proofs.Common.{map, take}
use Rattle.fort_link_units.specs.declared.unit.ApiDeclared.{ApiDeclared}
use Rattle.fort_link_rules.specs.Imported.{api_name}
use Rattle.fort_link_rules.specs.Marks.{MarksNames}
use Rattle.fort_link_rules.proofs.imported.mark_promised.Given as goal

abbrev pub invariant-loop-declared : goal.invariant-loop-declared
invariant-loop-declared l =
    MarksNames (map (λ (d : ApiDeclared). api_name d.declaration) (take l.declared-index l.declarations))
    l.initial.marks l.marks
