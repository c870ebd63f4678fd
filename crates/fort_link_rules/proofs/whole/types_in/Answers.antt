use Rattle.std.proofs.Common.{◌∙◌, ap}
use Rattle.std.specs.List.{flat_map}
use Rattle.std.proofs.lemmas.List.{take_all}
use Rattle.fort_tree.specs.declared.declarations.Declared.{Declared}
use Rattle.fort_tree.specs.Limits.{type_places}
use Rattle.fort_link_rules.specs.TooMuch.{whole_declarations}
use Rattle.fort_link_rules.proofs.WholeLaws.{adds_more}
use Rattle.fort_link_rules.proofs.whole.types_in.Goals as goal

pub loop-unit-preserved : goal.loop-unit-preserved
loop-unit-preserved c =
    adds_more (λ (d : Declared). type_places d.declaration) c.args.units.now c.loop-unit.unit-index c.unit-item.result
    c.loop-unit.places _ c.loop-unit-test.true c.unit-item.is c.declarations_of.ensures
    c.loop-unit.invariant c.in_ok-add_types.ensures

pub returns : goal.returns
returns c =
    c.loop-unit.invariant ∙ ap (λ us. flat_map (λ (d : Declared). type_places d.declaration) (whole_declarations us))
    (take_all c.loop-unit.unit-index c.args.units.now c.loop-unit-test.false)
