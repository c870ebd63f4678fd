-- The chapter "Tokens", places: no two tokens of a file stand at one.
use Rattle.std.specs.Prelude.{ℕ, List}
use Rattle.fort_lex_token.specs.declared.token.Tokens.{Tokens}
use Rattle.fort_lex.specs.Files.{HasTokens}
use Rattle.fort_elab_law_matched.specs.Component.{StandApart}

abbrev pub TokensStandApart : Type 0
TokensStandApart = (bytes : List ℕ) (tokens : Tokens) → HasTokens bytes tokens
    → StandApart tokens.list
