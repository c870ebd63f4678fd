use Rattle.fort_link_rules.proofs.Gathering.{on_ok}
use Rattle.fort_link_rules.proofs.HeadLaws.{once_of_component, once_of_api}
use Rattle.fort_link_rules.proofs.heads.add_not_exported_once.Goals as goal

pub returns-in-Component : goal.returns-in-Component
returns-in-Component c = once_of_component c.args.units.now _ c.args.unit.now _ c.in-Component.is

pub returns-in-Api : goal.returns-in-Api
returns-in-Api c =
    on_ok c.add_where.result (once_of_api c.args.units.now c.in-Api.api c.args.unit.now
    c.is_exported_once-once.result c.args.places.now c.add_where.new.places c.in-Api.is
    c.is_exported_once-once.ensures) c.add_where.ensures
