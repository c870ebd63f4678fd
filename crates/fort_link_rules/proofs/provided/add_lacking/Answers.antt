use Rattle.fort_link_rules.specs.Provided.{IsMissingIn}
use Rattle.fort_link_rules.proofs.Gathering.{gathers_none, gathers_more, gathers_all}
use Rattle.fort_link_rules.proofs.Missing.{lacks, lacks_none}
use Rattle.fort_link_rules.proofs.provided.add_lacking.Goals as goal

pub loop-other-init : goal.loop-other-init
loop-other-init c =
    gathers_none (IsMissingIn c.in_ok-catalogue-in-Component.catalogue.signatures c.args.unit.now)
    c.args.units.now _

pub loop-other-preserved : goal.loop-other-preserved
loop-other-preserved c =
    gathers_more (IsMissingIn c.in_ok-catalogue-in-Component.catalogue.signatures c.args.unit.now)
    c.args.units.now c.loop-other.other-index c.other-item.result c.args.places.now
    c.loop-other.places c.add_missing_in.new.places c.loop-other-test.true c.other-item.is
    c.loop-other.invariant c.in_ok-add_missing_in-in-Component.ensures

pub returns-after-loop-other : goal.returns-after-loop-other
returns-after-loop-other c =
    lacks c.args.units.now c.in-Component.component
    c.in_ok-catalogue-in-Component.catalogue.signatures c.args.unit.now c.args.places.now
    c.loop-other.places c.in-Component.is c.in_ok-catalogue-in-Component.ensures.all (gathers_all
    (IsMissingIn c.in_ok-catalogue-in-Component.catalogue.signatures c.args.unit.now)
    c.args.units.now c.loop-other.other-index c.args.places.now c.loop-other.places
    c.loop-other-test.false c.loop-other.invariant)

pub returns-in-Api : goal.returns-in-Api
returns-in-Api c = lacks_none c.args.units.now _ c.args.unit.now c.args.places.now c.in-Api.is
