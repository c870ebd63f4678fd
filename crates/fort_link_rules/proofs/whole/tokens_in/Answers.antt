use Rattle.std.proofs.Common.{◌∙◌, ap}
use Rattle.std.proofs.lemmas.List.{take_all}
use Rattle.fort_link_rules.specs.TooMuch.{token_places, whole_declarations}
use Rattle.fort_link_rules.proofs.WholeLaws.{tokens_more}
use Rattle.fort_link_rules.proofs.whole.tokens_in.Goals as goal

pub loop-unit-preserved : goal.loop-unit-preserved
loop-unit-preserved c =
    tokens_more c.args.units.now c.loop-unit.unit-index c.unit-item.result c.loop-unit.places _
    c.loop-unit-test.true c.unit-item.is c.loop-unit.invariant c.in_ok-add_tokens_of.ensures

pub returns : goal.returns
returns c =
    c.loop-unit.invariant ∙ ap (λ us. token_places (whole_declarations us))
    (take_all c.loop-unit.unit-index c.args.units.now c.loop-unit-test.false)
