use Rattle.std.proofs.Common.{◌++◌, subst}
use Rattle.std.specs.List.{flat_map}
use Rattle.std.proofs.lemmas.List.{take_all}
use Rattle.fort_link_rules.specs.Imported.{names_declared, names_imported_from}
use Rattle.fort_link_rules.specs.Marks.{HasMarks}
use Rattle.fort_link_rules.proofs.Marking.{has_step}
use Rattle.fort_link_rules.proofs.Used.{first_known}
use Rattle.fort_link_rules.proofs.imported.known_marks.Goals as goal

pub loop-unit-init : goal.loop-unit-init
loop-unit-init c =
    first_known c.args.component.now _ _ c.new-marks.ensures c.as_slice-declarations.ensures
    c.in_ok-mark_declared.ensures

pub loop-unit-preserved : goal.loop-unit-preserved
loop-unit-preserved c =
    has_step (names_declared c.args.component.now.parsed.component)
    (names_imported_from c.args.component.now) c.args.units.now c.loop-unit.unit-index
    c.unit-item.result c.loop-unit.marks _ c.loop-unit-test.true c.unit-item.is
    c.loop-unit.invariant c.in_ok-mark_imported_from.ensures

pub returns : goal.returns
returns c =
    subst (λ us. HasMarks (names_declared c.args.component.now.parsed.component
    ++ flat_map (names_imported_from c.args.component.now) us) c.loop-unit.marks)
    (take_all c.loop-unit.unit-index c.args.units.now c.loop-unit-test.false) c.loop-unit.invariant
