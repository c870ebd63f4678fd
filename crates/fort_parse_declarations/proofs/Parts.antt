-- What the laws of declarations ask of the parsers of expressions and of variables.
use Rattle.std.proofs.Common.{◌≡◌, ℕ, true, false, ◌∷◌, ◌++◌, Option}
use Rattle.fort_tree.specs.declared.spot.Spot.{Spot}
use Rattle.fort_tree.specs.declared.spot.Name.{Name}
use Rattle.fort_tree.specs.declared.expr.Expr.{Expr}
use Rattle.fort_tree.specs.declared.types.TypeTree.{TypeTree}
use Rattle.fort_tree.specs.declared.declarations.InitialSign.{InitialSign}
use Rattle.fort_tree.specs.declared.declarations.Variable.{Variable, roll-Variable}
use Rattle.fort_tree.specs.Tokens.{Spellings}
use Rattle.fort_tree.specs.Tokens.{colon as at_colon}
use Rattle.fort_tree.specs.Said.{tokens_of, elsewhere}
use Rattle.fort_tree.specs.Types.{said_type}
use Rattle.fort_tree.specs.Blocks.{initial_token}
use Rattle.fort_tree.specs.Yield.{said_expr}
use Rattle.fort_parse_reading.specs.Parser.{Row, next_of}
use Rattle.fort_parse_reading.proofs.Laws.{Only, Gets}
use Rattle.fort_parse_reading.proofs.Yields.{Yields}
use Rattle.fort_parse.specs.Runs.{expr_at, variable_at}
use Rattle.fort_parse.proofs.Statements.{YieldsVariable, expr_stops}

-- expressions and variables are read as the trees that say them
pub record PartLaws (names : Spellings) (n : ℕ) : Type 0 where
  pub sound_expr : (ts : Row)
      → Only Expr ((expr_at names n false).parser.run ts)
      (λ e rest. Yields names (said_expr e) elsewhere ts rest)
  pub sound_variable : (var : Option Spot) (name : Name) (ts : Row)
      → Only Variable ((variable_at names n var name).run ts)
      (λ v rest. YieldsVariable names var name v ts rest)
  pub complete_expr : (e : Expr) (rest : Row) → (said_expr e).obeys names elsewhere ≡ true
      → expr_stops false (next_of rest) ≡ true
      → Gets Expr ((expr_at names n false).parser.run (tokens_of (said_expr e) ++ rest)) e rest
  pub complete_variable : (var : Option Spot) (name : Name) (colon : Spot) (ty : TypeTree)
      (sign : InitialSign) (value : Expr) (rest : Row)
      → (said_type ty).obeys names elsewhere ≡ true → (said_expr value).obeys names elsewhere ≡ true
      → expr_stops false (next_of rest) ≡ true
      → Gets Variable
      ((variable_at names n var name).run
      (at_colon colon
      ∷ (tokens_of (said_type ty) ++ initial_token sign
      ∷ (tokens_of (said_expr value) ++ rest))))
      (roll-Variable
      (record {
        var = var;
        name = name;
        colon = colon;
        ty = ty;
        sign = sign;
        value = value;
      })) rest
