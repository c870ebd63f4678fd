use Rattle.std.proofs.Common.{[]}
use Rattle.fort_link_rules.specs.Provided.{LacksPromised}
use Rattle.fort_link_rules.proofs.Gathering.{gathers_begin, gathers_more, found}
use Rattle.fort_link_rules.proofs.provided.first_not_provided.Goals as goal

pub loop-unit-init : goal.loop-unit-init
loop-unit-init c =
    gathers_begin (LacksPromised c.args.units.now) c.args.units.now _ c.new-places.ensures

pub loop-unit-preserved : goal.loop-unit-preserved
loop-unit-preserved c =
    gathers_more (LacksPromised c.args.units.now) c.args.units.now c.loop-unit.unit-index
    c.unit-item.result [] c.loop-unit.places _ c.loop-unit-test.true c.unit-item.is
    c.loop-unit.invariant c.in_ok-add_lacking.ensures

pub returns : goal.returns
returns c =
    found (LacksPromised c.args.units.now) c.args.units.now c.loop-unit.unit-index
    c.loop-unit.places _ _ c.loop-unit-test.false c.loop-unit.invariant c.as_slice.ensures
    c.earliest.ensures
