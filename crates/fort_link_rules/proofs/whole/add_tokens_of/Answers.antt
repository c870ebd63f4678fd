use Rattle.std.proofs.Common.{◌++◌, ap, sym, ◌∙◌}
use Rattle.std.proofs.lemmas.List.{append-nil}
use Rattle.fort_link_units.specs.declared.unit.Unit.{Unit}
use Rattle.fort_link_rules.specs.TooMuch.{declarations_in, token_places}
use Rattle.fort_link_rules.proofs.Gathering.{on_ok}
use Rattle.fort_link_rules.proofs.whole.add_tokens_of.Goals as goal

pub returns-in-Component : goal.returns-in-Component
returns-in-Component c =
    on_ok c.add_tokens.result (λ e. e ∙ ap (λ
    (u : Unit). c.args.places.now ++ token_places (declarations_in u)) (sym c.in-Component.is))
    c.add_tokens.ensures

pub returns-in-Api : goal.returns-in-Api
returns-in-Api c =
    sym (append-nil c.args.places.now) ∙ ap (λ
    (u : Unit). c.args.places.now ++ token_places (declarations_in u)) (sym c.in-Api.is)
