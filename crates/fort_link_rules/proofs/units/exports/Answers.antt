use Rattle.std.proofs.Common.{List, ap, sym, ◌∙◌}
use Rattle.std.specs.List.{list_any}
use Rattle.fort_tree.specs.declared.declarations.Export.{Export}
use Rattle.fort_link_units.specs.declared.unit.Unit.{Unit}
use Rattle.fort_link_rules.specs.Units.{exports, is_same}
use Rattle.fort_link_rules.proofs.units.exports.Goals as goal

pub returns-in-Component : goal.returns-in-Component
returns-in-Component c =
    c.is_exported.ensures ∙ ap (λ
    (es : List Export). list_any (λ (e : Export). is_same e.name c.args.name) es) c.as_slice.ensures
    ∙ sym (ap (λ (u : Unit). exports c.args.name u) c.in-Component.is)
