-- The chapter "Tokens", names and places: the numbers of a file's names are in its table, and its
-- tokens stand on lines from 1 on.
use Rattle.std.specs.Prelude.{ℕ, ◌≤◌, List}
use Rattle.std.specs.List.{AllByRecursion}
use Rattle.fort_lex_token.specs.declared.token.Token.{Token}
use Rattle.fort_lex_token.specs.declared.token.Tokens.{Tokens}
use Rattle.fort_lex.specs.Files.{HasTokens}
use Rattle.fort_syntax.specs.Answer.{NamesAreIn}

-- Each number of a name among a file's tokens is in its table.
abbrev pub FileNamesAreIn : Type 0
FileNamesAreIn = (bytes : List ℕ) (tokens : Tokens) → HasTokens bytes tokens
    → NamesAreIn tokens.names tokens.list

-- A token stands on a line of a file.
abbrev pub IsOnLine : Token → Type 0
IsOnLine t = 1 ≤ t.place.line

-- All tokens of a file do.
abbrev pub FileStandsOnLines : Type 0
FileStandsOnLines = (bytes : List ℕ) (tokens : Tokens) → HasTokens bytes tokens
    → AllByRecursion IsOnLine tokens.list
