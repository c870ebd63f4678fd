use Rattle.std.proofs.Common.{◌≡◌, ◌++◌, take}
use Rattle.std.specs.List.{flat_map}
use Rattle.fort_lex_canonical.specs.Canonical.{token_text}
use Rattle.fort_lex_canonical.proofs.text.push_tokens.Given as goal

abbrev pub invariant-loop-token : goal.invariant-loop-token
invariant-loop-token l =
    l.text ≡ l.fn.text
    ++ flat_map (token_text l.tokens.names l.tokens.texts) (take l.token-index l.list)
