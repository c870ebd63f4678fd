-- The `;` that may stand behind an item of a block or a clause, as a parser.
use Rattle.std.specs.Prelude.{◌≡◌, ℕ, zero, ◌≤◌, List, length, Option, Some, None}
use Rattle.fort_lex_token.specs.declared.token.Token.{Token}
use Rattle.fort_lex_token.specs.declared.marks.Mark.TheVariants as mark
use Rattle.fort_tree.specs.declared.spot.Spot.{Spot}
use Rattle.fort_parse_reading.specs.declared.fault.Fault.TheVariants.{TooDeep}
use Rattle.fort_parse_reading.specs.Parser.{Row, Outcome, Failed, Locally, Parser, pure, ◌>>=◌, fork, accept}
use Rattle.fort_parse_reading.specs.Words.{is_mark, spot_if, sees}

-- a `;`, where the next token is one
abbrev one_at_most : {n : ℕ} → Parser (Option Spot) n
one_at_most = fork (sees (is_mark mark.Semicolon)) (do s ← accept (spot_if (is_mark mark.Semicolon)); pure (Some s)) (pure None)

-- what is read of tokens; no budget is spent on it
unfoldable pub semicolon_run : Row → Outcome (Option Spot)
semicolon_run = (one_at_most {n = zero}).run

pub semicolon_local : (ts : Row) → Locally semicolon_run ts (semicolon_run ts)
unfolding semicolon_run
semicolon_local ts = (one_at_most {n = zero}).local ts

pub semicolon_deep : (n : ℕ) (ts rest : Row) → semicolon_run ts ≡ Failed TooDeep rest
    → n ≤ length ts
unfolding semicolon_run
semicolon_deep n ts rest e = (one_at_most {n = n}).deep ts rest e

-- the parser, with any budget
abbrev pub semicolon : {n : ℕ} → Parser (Option Spot) n
semicolon {n} = record { run = semicolon_run; local = semicolon_local; deep = semicolon_deep n }
