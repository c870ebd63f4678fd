use Rattle.fort_link_rules.proofs.Gathering.{on_ok}
use Rattle.fort_link_rules.proofs.HeadLaws.{unknown_of_component, unknown_of_api}
use Rattle.fort_link_rules.proofs.heads.add_unknown.Goals as goal

pub returns-in_ok-add_unknown_imports-in-Component : goal.returns-in_ok-add_unknown_imports-in-Component
returns-in_ok-add_unknown_imports-in-Component c =
    on_ok c.add_unknown_exports.result (unknown_of_component c.args.names.now c.args.units.now
    c.in-Component.component c.args.unit.now c.args.places.now c.add_unknown_imports.new.places
    c.add_unknown_exports.new.places c.in-Component.is c.as_slice.ensures c.as_slice-in-Component.ensures
    c.in_ok-add_unknown_imports-in-Component.ensures) c.add_unknown_exports.ensures

pub returns-in-Api : goal.returns-in-Api
returns-in-Api c =
    unknown_of_api c.args.names.now c.args.units.now _ c.args.unit.now _ c.in-Api.is
