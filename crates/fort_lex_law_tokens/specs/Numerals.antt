-- The chapter "Tokens", numbers: those of a file are ZZ64 at most, by rule 106.
use Rattle.std.specs.Prelude.{ℕ, ◌≤◌, List}
use Rattle.std.specs.List.{AllByRecursion}
use Rattle.fort_lex_token.specs.declared.token.Kind.{Kind}
use Rattle.fort_lex_token.specs.declared.token.Kind.TheVariants as kind
use Rattle.fort_lex_token.specs.declared.token.Token.{Token}
use Rattle.fort_lex_token.specs.declared.token.Tokens.{Tokens}
use Rattle.fort_lex.specs.Files.{HasTokens}

-- A token that is a number is a ZZ64.
abbrev pub FitsKind : Kind → Type 0
FitsKind (kind.Number n) = n ≤ 9223372036854775807
FitsKind _ = Unit {0}

abbrev pub Fits : Token → Type 0
Fits t = FitsKind t.kind

-- All numbers of a file are.
abbrev pub FileNumbersFit : Type 0
FileNumbersFit = (bytes : List ℕ) (tokens : Tokens) → HasTokens bytes tokens
    → AllByRecursion Fits tokens.list
