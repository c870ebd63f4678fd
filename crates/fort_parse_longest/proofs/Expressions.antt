-- What is read of an expression is the longest that begins there; where reading fails, there is
-- none with more tokens.
use Rattle.std.proofs.Common.{◌≡◌, ℕ, ◌+◌, ◌-◌, ◌<◌, true, false, [], length, sym, subst, arith}
use Rattle.std.proofs.lemmas.List.{append-nil}
use Rattle.fort_tree.specs.declared.expr.Expr.{Expr}
use Rattle.fort_tree.specs.Tokens.{Spellings}
use Rattle.fort_tree.specs.Said.{tokens_of, elsewhere}
use Rattle.fort_tree.specs.Yield.{said_expr}
use Rattle.std.specs.Prelude.{◌≢◌}
use Rattle.fort_parse_reading.specs.declared.fault.Fault.TheVariants.{Syntax, Memory}
use Rattle.fort_parse_reading.specs.Parser.{Row, Outcome, Read, Failed}
use Rattle.fort_parse_reading.specs.Longest.{LongestPart}
use Rattle.fort_parse_reading.proofs.Laws.{Gets}
use Rattle.fort_parse_reading.proofs.Longest.{none_has, fails_at, is_longest}
use Rattle.fort_parse.specs.Runs.{expr_at}
use Rattle.fort_parse.proofs.Stops.{nothing_ends_expr}
use Rattle.fort_parse.proofs.AllRuns.{sound_expr_at, complete_expr_at}
use Rattle.fort_parse_longest.specs.Longest.{IsFault, NoLongerExpr}

pub not_memory : Syntax ≢ Memory
not_memory e = absurd cc

module _ (names : Spellings) where
  -- the tokens of an expression are read whole, where nothing follows them
  complete_alone : (n : ℕ) (e : Expr) → (said_expr e).obeys names elsewhere ≡ true
      → Gets Expr ((expr_at names n false).parser.run (tokens_of (said_expr e))) e []
  complete_alone n e ob =
      subst (λ (z : Row). Gets Expr ((expr_at names n false).parser.run z) e [])
      (append-nil (tokens_of (said_expr e)))
      (complete_expr_at names n false e [] ob (nothing_ends_expr false))

  module _ (ts cursor : Row) (all : cursor ≡ ts) where
    -- the parser of expressions, with one more than the tokens as its budget
    abbrev run : Row → Outcome Expr
    run = (expr_at names (length ts + 1) false).parser.run

    -- what is read is the longest part
    pub read_longest : (e : Expr) (rest : Row) (count : ℕ) → count ≡ length ts - length rest
        → run cursor ≡ Read e rest → LongestPart names elsewhere said_expr ts e count
    read_longest e rest count c is =
        let whole : run ts ≡ Read e rest = subst (λ (us : Row). run us ≡ Read e rest) all is in
        let lt : length ts < length ts + 1 = omega arith in
        subst (λ (k : ℕ). LongestPart names elsewhere said_expr ts e k) (sym c)
        (is_longest names elsewhere said_expr (expr_at names (length ts + 1) false).parser
        (sound_expr_at names (length ts + 1) false) (complete_alone (length ts + 1)) ts e
        rest lt whole)

    -- where reading fails, all of the tokens are no expression, and none has more tokens than those
    -- before the fault
    pub read_fault : (rest : Row) (count : ℕ) → count ≡ length ts - length rest
        → run cursor ≡ Failed Syntax rest → IsFault names ts count
    read_fault rest count c is =
        let whole : run ts ≡ Failed Syntax rest =
        subst (λ (us : Row). run us ≡ Failed Syntax rest) all is in
        record {
          within = omega (arith, c);
          none = none_has names elsewhere said_expr (expr_at names (length ts + 1) false).parser
              (sound_expr_at names (length ts + 1) false) (complete_alone (length ts + 1)) ts rest
              whole;
          bound = subst (λ (k : ℕ). NoLongerExpr names ts k) (sym c)
              (fails_at names elsewhere said_expr (expr_at names (length ts + 1) false).parser
              (sound_expr_at names (length ts + 1) false) (complete_alone (length ts + 1))
              ts rest whole);
        }
