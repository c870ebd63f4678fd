use Rattle.std.proofs.Common.{◌≡◌, ◌≤◌, length, sym, ap, subst, arith}
use Rattle.fort_lex_token.specs.declared.token.Token.{Token}
use Rattle.fort_parse_longest.specs.Parts.{IsPlaceAt}
use Rattle.fort_parse_longest.proofs.TokenPlaces.{token_at}
use Rattle.fort_parse_longest.proofs.places.place_at.Goals as goal

pub returns-in-Some : goal.returns-in-Some
returns-in-Some c =
    let is = c.in-Some.ensures.lookup in
    token_at c.args.list.now c.args.at c.in-Some.token.now c.in-Some.token.now.place is.3.0 (ap (λ
    (t : Token). t.place) (sym is.1))

pub returns-in-None : goal.returns-in-None
returns-in-None c =
    let le : length c.args.list.now ≤ c.args.at = c.in-None.ensures.lookup.3 in
    let all : length c.args.list.now ≡ c.args.at = omega (arith, le, c.requires) in
    subst (λ k. IsPlaceAt c.args.list.now k c.last_place.result) all c.last_place.ensures
