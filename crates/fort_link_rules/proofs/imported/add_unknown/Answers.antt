use Rattle.std.proofs.Common.{◌∙◌}
use Rattle.fort_link_rules.proofs.Gathering.{on_ok}
use Rattle.fort_link_rules.proofs.Used.{used_of_component, used_of_api}
use Rattle.fort_link_rules.proofs.imported.add_unknown.Goals as goal

pub returns-in_ok-types-in-Component : goal.returns-in_ok-types-in-Component
returns-in_ok-types-in-Component c =
    on_ok c.add_strangers-in-Component.result (used_of_component c.args.units.now c.in-Component.component
    c.args.unit.now c.in_ok-known-in-Component.known c.args.declared.now c.args.places.now
    c.add_strangers.new.places c.add_strangers-in-Component.new.places c.in-Component.is
    c.in_ok-known-in-Component.ensures c.requires
    (c.as_slice.ensures ∙ c.in_ok-atoms-in-Component.ensures)
    (c.as_slice-in-Component.ensures ∙ c.in_ok-types-in-Component.ensures)
    c.in_ok-add_strangers-in-Component.ensures) c.add_strangers-in-Component.ensures

pub returns-in-Api : goal.returns-in-Api
returns-in-Api c = used_of_api c.args.units.now _ c.args.unit.now _ c.in-Api.is
