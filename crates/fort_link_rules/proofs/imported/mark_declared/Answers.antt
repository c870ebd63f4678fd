use Rattle.std.proofs.Common.{subst}
use Rattle.std.specs.List.{flat_map}
use Rattle.std.proofs.lemmas.List.{take_all}
use Rattle.fort_tree.specs.declared.declarations.Declared.{Declared}
use Rattle.fort_link_rules.specs.Imported.{declared_names}
use Rattle.fort_link_rules.specs.Marks.{MarksNames}
use Rattle.fort_link_rules.proofs.Marking.{marks_none, marks_step}
use Rattle.fort_link_rules.proofs.imported.mark_declared.Goals as goal

pub loop-declared-init : goal.loop-declared-init
loop-declared-init c = marks_none _

pub loop-declared-preserved : goal.loop-declared-preserved
loop-declared-preserved c =
    marks_step (λ (d : Declared). declared_names d.declaration) c.args.declarations.now
    c.loop-declared.declared-index c.declared-item.result _ c.loop-declared.marks _
    c.loop-declared-test.true c.declared-item.is c.loop-declared.invariant
    c.in_ok-mark_declaration.ensures

pub returns : goal.returns
returns c =
    subst (λ ds. MarksNames (flat_map (λ (d : Declared). declared_names d.declaration) ds)
    c.args.marks.now c.loop-declared.marks)
    (take_all c.loop-declared.declared-index c.args.declarations.now c.loop-declared-test.false)
    c.loop-declared.invariant
