-- What the laws of the productions say, in one place, so that each file of laws can be read and
-- checked by itself. A parser of runs that keeps the laws of runs makes parsers of flat
-- expressions, of expressions, of blocks and again of runs that keep theirs.
use Rattle.std.specs.Prelude.{◌≡◌, ℕ, Bool, true, false, ◌&&◌, not, List, [], ◌∷◌, ◌++◌, Option, Some, None, option_map}
use Rattle.fort_lex_token.specs.declared.token.Token.{Token}
use Rattle.fort_lex_token.specs.declared.marks.Mark.TheVariants as mark
use Rattle.fort_tree.specs.declared.spot.Spot.{Spot}
use Rattle.fort_tree.specs.declared.spot.Name.{Name}
use Rattle.fort_tree.specs.declared.expr.Expr.{Expr}
use Rattle.fort_tree.specs.declared.expr.ExprList.{ExprList}
use Rattle.fort_tree.specs.declared.expr.Flat.{Flat}
use Rattle.fort_tree.specs.declared.expr.Generator.{Generator}
use Rattle.fort_tree.specs.declared.expr.Head.{Head}
use Rattle.fort_tree.specs.declared.expr.Operand.{Operand}
use Rattle.fort_tree.specs.declared.expr.Run.{Run}
use Rattle.fort_tree.specs.declared.declarations.Variable.{Variable, roll-Variable}
use Rattle.fort_tree.specs.declared.declarations.InitialSign.{InitialSign}
use Rattle.fort_tree.specs.declared.types.TypeTree.{TypeTree}
use Rattle.fort_tree.specs.declared.delimited.Delimited.{Delimited}
use Rattle.fort_lex_token.specs.declared.reserved.Reserved.TheVariants as reserved
use Rattle.fort_tree.specs.Tokens.{Spellings, marked, word, named}
use Rattle.fort_tree.specs.Tokens.{colon as at_colon}
use Rattle.fort_tree.specs.Types.{said_type}
use Rattle.fort_tree.specs.Blocks.{initial_token}
use Rattle.fort_tree.specs.Said.{Said, Allowed, tokens_of, maybe_tokens, maybe_obeys, elsewhere, in_brackets}
use Rattle.fort_tree.specs.Yield.{said_run, said_operand, said_flat, said_generator, said_head, said_expr, said_expr_list, said_variable, said_delimited}
use Rattle.fort_parse_reading.specs.Parser.{Row, Eater, next_of}
use Rattle.fort_parse_reading.specs.Words.{sees}
use Rattle.fort_parse_reading.proofs.Laws.{Only, Gets}
use Rattle.fort_parse_reading.proofs.Yields.{Yields, YieldsMaybe}
use Rattle.fort_parse_first.specs.Beginnings.{begins_atom, begins_run_part, begins_flat_part, begins_head, assigns}
use Rattle.fort_parse.specs.Flats.{operand, flat, generator, head, opened, expr_from, expr, maybe_list}
use Rattle.fort_parse.specs.Blocks.{variable_from}
use Rattle.fort_parse.specs.Runs.{delimited}

-- what may stand there, by its two questions
abbrev pub allowing : Bool → Bool → Allowed
allowing lines blocks = record { lines = lines; blocks = blocks }

-- ts is the tokens of the tree and then rest, and the rules hold in it, whether new lines may stand
-- between its units or not
pub record YieldsUnit (names : Spellings) (x : Said) (blocks : Bool)
    (ts rest : List Token) : Type 0 where
  pub tokens : ts ≡ tokens_of x ++ rest
  pub obeys : (lines : Bool) → x.obeys names (allowing lines blocks) ≡ true

-- what ends a flat expression
abbrev pub flat_stops : Bool → Bool → Option Token → Bool
flat_stops lines blocks next =
    not (begins_run_part blocks next) && not (begins_flat_part (allowing lines blocks) next)

-- what ends an expression
abbrev pub expr_stops : Bool → Option Token → Bool
expr_stops lines next = flat_stops lines true next && not (sees assigns next)

-- a parser of runs reads runs, and each run
pub record RunLaws (names : Spellings) {n : ℕ} (run : Bool → Eater Run n) : Type 0 where
  pub sound : (blocks : Bool) (ts : Row)
      → Only Run ((run blocks).parser.run ts)
      (λ r rest. YieldsUnit names (said_run r) blocks ts rest)
  pub complete : (lines blocks : Bool) (r : Run) (rest : Row)
      → (said_run r).obeys names (allowing lines blocks) ≡ true
      → begins_run_part blocks (next_of rest) ≡ false
      → Gets Run ((run blocks).parser.run (tokens_of (said_run r) ++ rest)) r rest

-- an expression without a head is read as its first unit and what goes on behind it
pub record UnitExpr (names : Spellings) {n : ℕ} (run : Bool → Eater Run n) (lines : Bool) (e : Expr)
    (rest : Row) : Type 0 where
  pub unit : Operand
  pub mid : Row
  pub reads_unit : Gets Operand
      ((operand names run true).parser.run (tokens_of (said_expr e) ++ rest)) unit mid
  pub goes_on : Gets Expr ((expr_from names run lines unit).run mid) e rest
  pub tokens : tokens_of (said_expr e) ++ rest ≡ tokens_of (said_operand unit) ++ mid
  -- the tokens of e behind its first unit
  pub more : Row
  pub behind : mid ≡ more ++ rest

-- an expression with a head is read as that and what goes on behind it
pub record HeadExpr (names : Spellings) {n : ℕ} (run : Bool → Eater Run n) (e : Expr)
    (rest : Row) : Type 0 where
  pub start : Head
  pub mid : Row
  pub reads_head : Gets Head ((head names run).parser.run (tokens_of (said_expr e) ++ rest)) start
      mid
  pub goes_on : Gets Expr ((opened names run start).run mid) e rest

-- the same of units, flat expressions, generators, heads and expressions
pub record FlatLaws (names : Spellings) {n : ℕ} (run : Bool → Eater Run n) : Type 0 where
  pub sound_operand : (blocks : Bool) (ts : Row)
      → Only Operand ((operand names run blocks).parser.run ts)
      (λ o rest. YieldsUnit names (said_operand o) blocks ts rest)
  pub sound_flat : (blocks : Bool) (ts : Row)
      → Only Flat ((flat names run blocks).parser.run ts)
      (λ f rest. Yields names (said_flat f) (allowing false blocks) ts rest)
  pub sound_generator : (blocks : Bool) (ts : Row)
      → Only Generator ((generator names run blocks).parser.run ts)
      (λ g rest. Yields names (said_generator g) (allowing false blocks) ts rest)
  pub sound_head : (ts : Row)
      → Only Head ((head names run).parser.run ts)
      (λ h rest. Yields names (said_head h) elsewhere ts rest)
  -- behind a head that was read from ts
  pub sound_opened : (h : Head) (ts mid : Row) → Yields names (said_head h) elsewhere ts mid
      → (lines : Bool)
      → Only Expr ((opened names run h).run mid)
      (λ e rest. Yields names (said_expr e) (allowing lines true) ts rest)
  -- behind a first unit that was read from ts
  pub sound_expr_from : (lines : Bool) (o : Operand) (ts mid : Row)
      → YieldsUnit names (said_operand o) true ts mid
      → Only Expr ((expr_from names run lines o).run mid)
      (λ e rest. Yields names (said_expr e) (allowing lines true) ts rest)
  pub sound_expr : (lines : Bool) (ts : Row)
      → Only Expr ((expr names run lines).parser.run ts)
      (λ e rest. Yields names (said_expr e) (allowing lines true) ts rest)
  pub sound_maybe_list : (ts : Row)
      → Only (Option ExprList) ((maybe_list names run).run ts)
      (λ l rest. YieldsMaybe names (option_map said_expr_list l) in_brackets ts rest)
  pub complete_operand : (lines blocks : Bool) (o : Operand) (rest : Row)
      → (said_operand o).obeys names (allowing lines blocks) ≡ true
      → begins_run_part blocks (next_of rest) ≡ false
      → Gets Operand ((operand names run blocks).parser.run (tokens_of (said_operand o) ++ rest)) o
      rest
  pub complete_flat : (blocks : Bool) (f : Flat) (rest : Row)
      → (said_flat f).obeys names (allowing false blocks) ≡ true
      → flat_stops false blocks (next_of rest) ≡ true
      → Gets Flat ((flat names run blocks).parser.run (tokens_of (said_flat f) ++ rest)) f rest
  pub complete_generator : (blocks : Bool) (g : Generator) (rest : Row)
      → (said_generator g).obeys names (allowing false blocks) ≡ true
      → flat_stops false blocks (next_of rest) ≡ true
      → Gets Generator
      ((generator names run blocks).parser.run (tokens_of (said_generator g) ++ rest)) g rest
  pub complete_head : (h : Head) (rest : Row) → (said_head h).obeys names elsewhere ≡ true
      → Gets Head ((head names run).parser.run (tokens_of (said_head h) ++ rest)) h rest
  pub complete_expr : (lines : Bool) (e : Expr) (rest : Row)
      → (said_expr e).obeys names (allowing lines true) ≡ true
      → expr_stops lines (next_of rest) ≡ true
      → Gets Expr ((expr names run lines).parser.run (tokens_of (said_expr e) ++ rest)) e rest
  pub complete_unit_expr : (lines : Bool) (e : Expr) (rest : Row)
      → (said_expr e).obeys names (allowing lines true) ≡ true
      → expr_stops lines (next_of rest) ≡ true → begins_head (said_expr e).first.kind ≡ false
      → UnitExpr names run lines e rest
  pub complete_head_expr : (lines : Bool) (e : Expr) (rest : Row)
      → (said_expr e).obeys names (allowing lines true) ≡ true
      → expr_stops lines (next_of rest) ≡ true → begins_head (said_expr e).first.kind ≡ true
      → HeadExpr names run e rest
  pub complete_maybe_list : (l : Option ExprList) (right : Spot) (rest : Row)
      → maybe_obeys names in_brackets (option_map said_expr_list l) ≡ true
      → Gets (Option ExprList)
      ((maybe_list names run).run
      (maybe_tokens (option_map said_expr_list l) ++ marked mark.CloseParen right ∷ rest)) l
      (marked mark.CloseParen right ∷ rest)

-- ---- the forms that end with `end`, and declarations of variables

-- the tokens before the name of a variable
abbrev pub var_tokens : Option Spot → List Token
var_tokens None = []
var_tokens (Some s) = word reserved.Var s ∷ []

-- ts is the rest of the tokens of a variable behind its name, and then rest, and the rules hold in
-- it
pub record YieldsVariable (names : Spellings) (var : Option Spot) (name : Name) (v : Variable)
    (ts rest : List Token) : Type 0 where
  pub tokens : var_tokens var ++ named name ∷ ts ≡ tokens_of (said_variable v) ++ rest
  pub obeys : (said_variable v).obeys names elsewhere ≡ true

-- a parser of runs that keeps its laws makes one of forms that end with `end`
pub record FormLaws (names : Spellings) {n : ℕ} (run : Bool → Eater Run n) : Type 0 where
  pub sound_delimited : (blocks : Bool) (ts : Row) → sees (begins_atom blocks) (next_of ts) ≡ true
      → Only Delimited ((delimited names run).parser.run ts)
      (λ d rest. YieldsUnit names (said_delimited d) blocks ts rest)
  pub sound_variable_from : (var : Option Spot) (name : Name) (ts : Row)
      → Only Variable ((variable_from names run var name).run ts)
      (λ v rest. YieldsVariable names var name v ts rest)
  pub complete_delimited : (lines blocks : Bool) (d : Delimited) (rest : Row)
      → (said_delimited d).obeys names (allowing lines blocks) ≡ true
      → Gets Delimited ((delimited names run).parser.run (tokens_of (said_delimited d) ++ rest)) d
      rest
  -- behind its name
  pub complete_variable : (var : Option Spot) (name : Name) (colon : Spot) (ty : TypeTree)
      (sign : InitialSign) (value : Expr) (rest : Row)
      → (said_type ty).obeys names elsewhere ≡ true → (said_expr value).obeys names elsewhere ≡ true
      → expr_stops false (next_of rest) ≡ true
      → Gets Variable
      ((variable_from names run var name).run
      (at_colon colon
      ∷ (tokens_of (said_type ty) ++ initial_token sign
      ∷ (tokens_of (said_expr value) ++ rest))))
      (roll-Variable
      (record {
        var = var;
        name = name;
        colon = colon;
        ty = ty;
        sign = sign;
        value = value;
      })) rest
