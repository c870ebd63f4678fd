use Rattle.std.proofs.Common.{[]}
use Rattle.fort_link_rules.specs.Imported.{UsesUnknown}
use Rattle.fort_link_rules.proofs.Gathering.{gathers_begin, gathers_more, found}
use Rattle.fort_link_rules.proofs.imported.first_not_imported.Goals as goal

pub loop-unit-init : goal.loop-unit-init
loop-unit-init c =
    gathers_begin (UsesUnknown c.args.units.now) c.args.units.now _ c.new-places.ensures

pub loop-unit-preserved : goal.loop-unit-preserved
loop-unit-preserved c =
    gathers_more (UsesUnknown c.args.units.now) c.args.units.now c.loop-unit.unit-index
    c.unit-item.result [] c.loop-unit.places _ c.loop-unit-test.true c.unit-item.is
    c.loop-unit.invariant c.in_ok-add_unknown.ensures

pub returns : goal.returns
returns c =
    found (UsesUnknown c.args.units.now) c.args.units.now c.loop-unit.unit-index
    c.loop-unit.places _ _ c.loop-unit-test.false c.loop-unit.invariant c.as_slice.ensures
    c.earliest.ensures
