-- Runs, expressions and declarations of variables keep their laws at every budget.
use Rattle.std.proofs.Common.{◌≡◌, ℕ, zero, suc, Bool, true, false, ◌∷◌, ◌++◌, Option}
use Rattle.fort_tree.specs.declared.spot.Spot.{Spot}
use Rattle.fort_tree.specs.declared.spot.Name.{Name}
use Rattle.fort_tree.specs.declared.expr.Expr.{Expr}
use Rattle.fort_tree.specs.declared.types.TypeTree.{TypeTree}
use Rattle.fort_tree.specs.declared.declarations.InitialSign.{InitialSign}
use Rattle.fort_tree.specs.declared.declarations.Variable.{Variable, roll-Variable}
use Rattle.fort_tree.specs.Tokens.{Spellings}
use Rattle.fort_tree.specs.Tokens.{colon as at_colon}
use Rattle.fort_tree.specs.Said.{tokens_of, elsewhere}
use Rattle.fort_tree.specs.Types.{said_type}
use Rattle.fort_tree.specs.Blocks.{initial_token}
use Rattle.fort_tree.specs.Yield.{said_expr}
use Rattle.fort_parse_reading.specs.Parser.{Row, next_of}
use Rattle.fort_parse_reading.proofs.Laws.{Only, only_failed, Gets, ends}
use Rattle.fort_parse_reading.proofs.Yields.{Yields}
use Rattle.fort_parse.specs.Runs.{run_at, expr_at, variable_at}
use Rattle.fort_parse.proofs.Statements.{allowing, YieldsVariable, expr_stops, RunLaws}
use Rattle.fort_parse.proofs.FlatComplete.{flat_laws}
use Rattle.fort_parse.proofs.FormComplete.{form_laws}
use Rattle.fort_parse.proofs.RunComplete.{level_laws}

pub run_laws : (names : Spellings) (n : ℕ) → RunLaws names (run_at names n)
unfolding run_at
run_laws names zero =
    record { sound = λ blocks ts. only_failed _ _ ts; complete = λ lines blocks r rest ob st. ends }
run_laws names (suc n) =
    let flats = flat_laws names (run_at names n) (run_laws names n) in
    level_laws names (run_at names n) flats (form_laws names (run_at names n) flats)

pub sound_expr_at : (names : Spellings) (n : ℕ) (lines : Bool) (ts : Row)
    → Only Expr ((expr_at names n lines).parser.run ts)
    (λ e rest. Yields names (said_expr e) (allowing lines true) ts rest)
unfolding expr_at
sound_expr_at names n lines ts =
    (flat_laws names (run_at names n) (run_laws names n)).sound_expr lines ts

pub complete_expr_at : (names : Spellings) (n : ℕ) (lines : Bool) (e : Expr) (rest : Row)
    → (said_expr e).obeys names (allowing lines true) ≡ true
    → expr_stops lines (next_of rest) ≡ true
    → Gets Expr ((expr_at names n lines).parser.run (tokens_of (said_expr e) ++ rest)) e rest
unfolding expr_at
complete_expr_at names n lines e rest ob st =
    (flat_laws names (run_at names n) (run_laws names n)).complete_expr lines e rest ob st

pub sound_variable_at : (names : Spellings) (n : ℕ) (var : Option Spot) (name : Name) (ts : Row)
    → Only Variable ((variable_at names n var name).run ts)
    (λ v rest. YieldsVariable names var name v ts rest)
unfolding variable_at
sound_variable_at names n var name ts =
    (form_laws names (run_at names n)
    (flat_laws names (run_at names n) (run_laws names n))).sound_variable_from var name ts

pub complete_variable_at : (names : Spellings) (n : ℕ) (var : Option Spot) (name : Name)
    (colon : Spot) (ty : TypeTree) (sign : InitialSign) (value : Expr) (rest : Row)
    → (said_type ty).obeys names elsewhere ≡ true → (said_expr value).obeys names elsewhere ≡ true
    → expr_stops false (next_of rest) ≡ true
    → Gets Variable
    ((variable_at names n var name).run
    (at_colon colon
    ∷ (tokens_of (said_type ty) ++ initial_token sign ∷ (tokens_of (said_expr value) ++ rest))))
    (roll-Variable
    (record { var = var; name = name; colon = colon; ty = ty; sign = sign; value = value }))
    rest
unfolding variable_at
complete_variable_at names n var name colon ty sign value rest oty ov st =
    (form_laws names (run_at names n)
    (flat_laws names (run_at names n) (run_laws names n))).complete_variable var name colon ty
    sign value rest oty ov st
