use Rattle.fort_link_rules.proofs.Gathering.{on_ok}
use Rattle.fort_link_rules.proofs.Used.{declared_in_component, declared_in_api}
use Rattle.fort_link_rules.proofs.imported.mark_declared_in.Goals as goal

pub returns-in-Component : goal.returns-in-Component
returns-in-Component c =
    on_ok c.mark_declared.result (declared_in_component c.in-Component.component c.args.unit.now _ _
    c.in-Component.is c.as_slice.ensures) c.mark_declared.ensures

pub returns-in-Api : goal.returns-in-Api
returns-in-Api c = declared_in_api _ c.args.unit.now _ c.in-Api.is
