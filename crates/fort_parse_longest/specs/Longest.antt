-- The chapter "Grammar": the longest expression that begins a row of tokens, and what one reading
-- of the row shows of it.
use Rattle.std.specs.Prelude.{ℕ, ◌≤◌, List, length, Option, Some, None}
use Rattle.fort_lex_token.specs.declared.token.Token.{Token}
use Rattle.fort_tree.specs.declared.expr.Expr.{Expr}
use Rattle.fort_tree.specs.Tokens.{Spellings}
use Rattle.fort_tree.specs.Said.{elsewhere}
use Rattle.fort_tree.specs.Yield.{said_expr}
use Rattle.fort_parse_reading.specs.Longest.{HasTree, NoneLonger, LongestPart, NoPart}
use Rattle.fort_parse_longest.specs.declared.longest.First.{First}
use Rattle.fort_parse_longest.specs.declared.longest.First.TheVariants as a_first

-- No more than the first k tokens are an expression.
abbrev pub NoLongerExpr : Spellings → List Token → ℕ → Type 0
NoLongerExpr names ts k = NoneLonger names elsewhere said_expr ts k

-- The longest expression that begins the tokens, and how many of them it is; none where no
-- expression begins them.
abbrev pub LongestExpr : Spellings → List Token → Option (Expr × ℕ) → Type 0
LongestExpr names ts None = NoPart names elsewhere said_expr ts
LongestExpr names ts (Some found) = LongestPart names elsewhere said_expr ts found.0 found.1

-- All of the tokens are no expression, and no more than the first k are one.
pub record IsFault (names : Spellings) (ts : List Token) (k : ℕ) : Type 0 where
  pub within : k ≤ length ts
  pub none : (y : Expr) → HasTree names elsewhere said_expr ts y → ⊥
  pub bound : NoLongerExpr names ts k

-- What one reading shows.
abbrev pub IsFirst : Spellings → List Token → First → Type 0
IsFirst names ts (a_first.Expr e k) = LongestPart names elsewhere said_expr ts e k
IsFirst names ts (a_first.Fault k) = IsFault names ts k
