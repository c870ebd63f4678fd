use Rattle.std.proofs.Common.{◌≡◌, ◌∷◌, Err, ap, ◌∙◌, rules}
use Rattle.fort_lex_token.specs.declared.reserved.Reserved.TheVariants as reserved
use Rattle.fort_tree.specs.Tokens.{word, named}
use Rattle.fort_parse_reading.specs.Parser.{Row}
use Rattle.fort_link_units.proofs.ComponentFiles.{ends_at_heads, unit_behind, refused_behind, sliced, empty_is, some_is}
use Rattle.fort_link_units.proofs.components.behind_heads.Goals as goal

pub returns-then-is_empty : goal.returns-then-is_empty
returns-then-is_empty c =
    let same = sliced c.args.end c.as_slice-list.result.now c.args.tokens.now.list
    c.as_slice-list.ensures in
    ends_at_heads c.args.tokens.now _ c.args.heads _ c.as_slice-list.result.now c.place_of.result
    c.requires.own c.requires.shallow c.requires.read
    (empty_is _ _ c.is_empty.result same c.is_empty.ensures c.if-is_empty.true)
    c.as_slice-list.ensures c.place_of.ensures

pub returns-in_err-parsed : goal.returns-in_err-parsed
returns-in_err-parsed c =
    let same = sliced c.args.end c.as_slice-list.result.now c.args.tokens.now.list
    c.as_slice-list.ensures in
    let is : c.from_residual-in_err-parsed.result ≡ Err c.in_err-parsed.field-0.0 = search rules in
    rw is (refused_behind c.args.tokens.now _ c.args.heads _
    (some_is _ _ c.is_empty.result same c.is_empty.ensures c.if-is_empty.false) c.requires.own
    c.requires.read c.requires.shallow c.in_ok-bare.bare
    (c.in_ok-bare.ensures ∙ ap (λ (u : Row). record {
      list = word reserved.Component c.args.heads.component ∷ named c.args.heads.name ∷ u;
      names = c.args.tokens.now.names;
      texts = c.args.tokens.now.texts;
    }) same) c.in_err-parsed.field-0.0 c.in_err-parsed.ensures)

pub returns : goal.returns
returns c =
    let same = sliced c.args.end c.as_slice-list.result.now c.args.tokens.now.list
    c.as_slice-list.ensures in
    unit_behind c.args.tokens.now _ c.args.heads _
    (some_is _ _ c.is_empty.result same c.is_empty.ensures c.if-is_empty.false) c.requires.own
    c.requires.read c.requires.shallow c.in_ok-bare.bare
    (c.in_ok-bare.ensures ∙ ap (λ (u : Row). record {
      list = word reserved.Component c.args.heads.component ∷ named c.args.heads.name ∷ u;
      names = c.args.tokens.now.names;
      texts = c.args.tokens.now.texts;
    }) same) c.in_ok-parsed.parsed c.in_ok-parsed.ensures
