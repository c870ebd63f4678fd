use Rattle.fort_link_rules.proofs.Gathering.{on_ok}
use Rattle.fort_link_rules.proofs.Missing.{missing_asked, missing_unasked}
use Rattle.fort_link_rules.proofs.provided.add_missing_of.Goals as goal

pub returns-then-exported : goal.returns-then-exported
returns-then-exported c =
    on_ok c.add_missing.result (missing_asked c.args.catalogue.now.signatures c.args.exporter.now
    c.args.api.now c.exports-exported.result c.args.places.now c.add_missing.new.places
    c.exports-exported.ensures c.if-exported.true c.as_slice.ensures) c.add_missing.ensures

pub returns-else-exported : goal.returns-else-exported
returns-else-exported c =
    missing_unasked c.args.catalogue.now.signatures c.args.exporter.now c.args.api.now
    c.exports-exported.result c.args.places.now c.exports-exported.ensures c.if-exported.false
