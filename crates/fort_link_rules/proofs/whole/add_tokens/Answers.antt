use Rattle.std.proofs.Common.{◌++◌, List, map, ap, ◌∙◌}
use Rattle.fort_lex_token.specs.declared.token.Token.{Token}
use Rattle.fort_link_rules.proofs.Gathering.{on_ok}
use Rattle.fort_link_rules.proofs.whole.add_tokens.Goals as goal

pub without_frame-requires : goal.without_frame-requires
without_frame-requires c = c.as_slice.ensures ∙ c.in_ok-tokens.ensures.list

pub returns : goal.returns
returns c =
    on_ok c.add_places.result (λ e. e ∙ ap (λ
    (ts : List Token). c.args.places.now ++ map (λ (t : Token). t.place) ts)
    c.without_frame.ensures) c.add_places.ensures
