use Rattle.fort_link_rules.proofs.Gathering.{on_ok}
use Rattle.fort_link_rules.proofs.Missing.{missing_none, missing_in_api}
use Rattle.fort_link_rules.proofs.provided.add_missing_in.Goals as goal

pub returns-in-Component : goal.returns-in-Component
returns-in-Component c =
    missing_none c.args.catalogue.now.signatures c.args.exporter.now _ c.args.unit.now
    c.args.places.now c.in-Component.is

pub returns-in-Api : goal.returns-in-Api
returns-in-Api c =
    on_ok c.add_missing_of.result (missing_in_api c.args.catalogue.now.signatures
    c.args.exporter.now c.in-Api.api c.args.unit.now c.args.places.now c.add_missing_of.new.places
    c.in-Api.is) c.add_missing_of.ensures
