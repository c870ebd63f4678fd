use Rattle.std.proofs.Common.{◌∙◌, ap}
use Rattle.std.specs.List.{flat_map}
use Rattle.std.proofs.lemmas.List.{take_all}
use Rattle.fort_tree.specs.Limits.{declaration_places}
use Rattle.fort_link_rules.specs.TooMuch.{whole_declarations}
use Rattle.fort_link_rules.proofs.WholeLaws.{adds_more}
use Rattle.fort_link_rules.proofs.whole.declarations_in.Goals as goal

pub loop-unit-preserved : goal.loop-unit-preserved
loop-unit-preserved c =
    adds_more declaration_places c.args.units.now c.loop-unit.unit-index c.unit-item.result
    c.loop-unit.places _ c.loop-unit-test.true c.unit-item.is c.declarations_of.ensures
    c.loop-unit.invariant c.in_ok-add_declarations.ensures

pub returns : goal.returns
returns c =
    c.loop-unit.invariant ∙ ap (λ us. flat_map declaration_places (whole_declarations us))
    (take_all c.loop-unit.unit-index c.args.units.now c.loop-unit-test.false)
