use Rattle.std.proofs.Common.{◌≡◌, ◌++◌, map, take}
use Rattle.fort_lex_token.specs.declared.token.Token.{Token}
use Rattle.fort_link_rules.proofs.whole.add_places.Given as goal

abbrev pub invariant-loop-token : goal.invariant-loop-token
invariant-loop-token l =
    l.places ≡ l.initial.places ++ map (λ (t : Token). t.place) (take l.token-index l.tokens)
