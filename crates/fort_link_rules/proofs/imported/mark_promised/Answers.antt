use Rattle.std.proofs.Common.{◌∷◌, [], map, subst}
use Rattle.std.proofs.lemmas.List.{take_all}
use Rattle.fort_link_units.specs.declared.unit.ApiDeclared.{ApiDeclared}
use Rattle.fort_link_rules.specs.Imported.{api_name}
use Rattle.fort_link_rules.specs.Marks.{MarksNames}
use Rattle.fort_link_rules.proofs.Marking.{marks_none, marks_step_mapped}
use Rattle.fort_link_rules.proofs.imported.mark_promised.Goals as goal

pub loop-declared-init : goal.loop-declared-init
loop-declared-init c = marks_none _

pub loop-declared-preserved : goal.loop-declared-preserved
loop-declared-preserved c =
    marks_step_mapped (λ (d : ApiDeclared). api_name d.declaration) c.args.declarations.now
    c.loop-declared.declared-index c.declared-item.result _ c.loop-declared.marks _
    c.loop-declared-test.true c.declared-item.is c.loop-declared.invariant
    (subst (λ n. MarksNames (n ∷ []) c.loop-declared.marks c.add.new.self) c.api_name.ensures
    c.in_ok-add.ensures)

pub returns : goal.returns
returns c =
    subst (λ ds. MarksNames (map (λ (d : ApiDeclared). api_name d.declaration) ds)
    c.args.marks.now c.loop-declared.marks)
    (take_all c.loop-declared.declared-index c.args.declarations.now c.loop-declared-test.false)
    c.loop-declared.invariant
