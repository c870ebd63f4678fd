use Rattle.std.proofs.Common.{[], subst}
use Rattle.std.specs.List.{flat_map}
use Rattle.std.proofs.lemmas.List.{take_all}
use Rattle.fort_link_rules.specs.Imported.{names_declared_in}
use Rattle.fort_link_rules.specs.Marks.{HasMarks}
use Rattle.fort_link_rules.proofs.Marking.{has_none, has_step}
use Rattle.fort_link_rules.proofs.imported.declared_marks.Goals as goal

pub loop-unit-init : goal.loop-unit-init
loop-unit-init c = has_none _ c.new-marks.ensures

pub loop-unit-preserved : goal.loop-unit-preserved
loop-unit-preserved c =
    has_step [] names_declared_in c.args.units.now c.loop-unit.unit-index c.unit-item.result
    c.loop-unit.marks _ c.loop-unit-test.true c.unit-item.is c.loop-unit.invariant
    c.in_ok-mark_declared_in.ensures

pub returns : goal.returns
returns c =
    subst (λ us. HasMarks (flat_map names_declared_in us) c.loop-unit.marks)
    (take_all c.loop-unit.unit-index c.args.units.now c.loop-unit-test.false) c.loop-unit.invariant
