-- The chapter "Grammar", limits: what each expression measures, as one level of it.
use Rattle.std.proofs.Common.{◌≡◌, ℕ, List, Option, rules}
use Rattle.std.specs.Prelude.{map, option_map}
use Rattle.fort_tree.specs.declared.spot.Spot.{Spot}
use Rattle.fort_tree.specs.declared.spot.Name.{Name}
use Rattle.fort_tree.specs.declared.spot.Sign.{Sign}
use Rattle.fort_tree.specs.declared.expr.Prefix.{Prefix}
use Rattle.fort_tree.specs.declared.expr.Big.{Big}
use Rattle.fort_tree.specs.declared.expr.AssignSign.{AssignSign}
use Rattle.fort_tree.specs.declared.declarations.Parameters.{Parameters}
use Rattle.fort_tree.specs.declared.types.TypeTree.{TypeTree}
use Rattle.fort_tree.specs.declared.delimited.Delimited.{Delimited, the_lemmas}
use Rattle.fort_tree.specs.declared.expr.Atom.{Atom}
use Rattle.fort_tree.specs.declared.expr.Atom.TheVariants as an_atom
use Rattle.fort_tree.specs.declared.expr.Expr.{Expr}
use Rattle.fort_tree.specs.declared.expr.FillSpots.{FillSpots}
use Rattle.fort_tree.specs.declared.expr.Expr.TheVariants as an_expr
use Rattle.fort_tree.specs.declared.expr.FlatPart.{FlatPart}
use Rattle.fort_tree.specs.declared.expr.FlatPart.TheVariants as a_flat_part
use Rattle.fort_tree.specs.declared.expr.Generator.{Generator}
use Rattle.fort_tree.specs.declared.expr.Generator.TheVariants as a_generator
use Rattle.fort_tree.specs.declared.expr.Head.{Head}
use Rattle.fort_tree.specs.declared.expr.Head.TheVariants as a_head
use Rattle.fort_tree.specs.declared.expr.Postfix.{Postfix}
use Rattle.fort_tree.specs.declared.expr.Postfix.TheVariants as a_postfix
use Rattle.fort_tree.specs.declared.expr.RunPart.{RunPart}
use Rattle.fort_tree.specs.declared.expr.RunPart.TheVariants as a_run_part
use Rattle.fort_tree.specs.declared.expr.ExprList.{ExprList, out-ExprList, roll-ExprList}
use Rattle.fort_tree.specs.declared.expr.Flat.{Flat, out-Flat, roll-Flat}
use Rattle.fort_tree.specs.declared.expr.NextExpr.{NextExpr, out-NextExpr, roll-NextExpr}
use Rattle.fort_tree.specs.declared.expr.Operand.{Operand, out-Operand, roll-Operand}
use Rattle.fort_tree.specs.declared.expr.Run.{Run, out-Run, roll-Run}
use Rattle.fort_tree.specs.declared.delimited.Delimited.TheOpen.{Atom-F, Expr-F, FlatPart-F, Generator-F, Head-F, Postfix-F, RunPart-F}
use Rattle.fort_tree.specs.Measuring.{measured_delimited, measured_atom, measured_expr, measured_flat_part, measured_generator, measured_head, measured_postfix, measured_run_part, measured_expr_list, measured_flat, measured_next_expr, measured_operand, measured_run}
use Rattle.fort_tree.specs.Measures.{measure_expr, measure_head, measure_generator, measure_flat, measure_flat_part, measure_operand, measure_run, measure_run_part, measure_postfix, measure_atom, measure_expr_list, measure_next_expr}

-- ---- Expr

pub measures-Flat : (flat : Flat)
    → measured_expr (an_expr.Flat flat) ≡ measure_expr (Expr-F.Flat (measured_flat flat))
unfolding measured_expr measured_flat
measures-Flat flat = search (rules, the_lemmas)

pub measures-Assign : (target : Flat) (sign : AssignSign) (head : Option Head) (value : Flat)
    → measured_expr (an_expr.Assign target sign head value)
    ≡ measure_expr
    (Expr-F.Assign (measured_flat target) sign (option_map measured_head head)
    (measured_flat value))
unfolding measured_expr measured_flat measured_head
measures-Assign target sign head value = search (rules, the_lemmas)

pub measures-Open : (head : Head) (body : Flat)
    → measured_expr (an_expr.Open head body)
    ≡ measure_expr (Expr-F.Open (measured_head head) (measured_flat body))
unfolding measured_expr measured_head measured_flat
measures-Open head body = search (rules, the_lemmas)

pub measures-OpenAssign : (head : Head) (target : Flat) (sign : AssignSign) (value : Flat)
    → measured_expr (an_expr.OpenAssign head target sign value)
    ≡ measure_expr
    (Expr-F.OpenAssign (measured_head head) (measured_flat target) sign (measured_flat value))
unfolding measured_expr measured_head measured_flat
measures-OpenAssign head target sign value = search (rules, the_lemmas)

-- ---- Head

pub measures-Atomic : (s : Spot) → measured_head (a_head.Atomic s) ≡ measure_head (Head-F.Atomic s)
unfolding measured_head
measures-Atomic s = search (rules, the_lemmas)

pub measures-Tryatomic : (s : Spot)
    → measured_head (a_head.Tryatomic s) ≡ measure_head (Head-F.Tryatomic s)
unfolding measured_head
measures-Tryatomic s = search (rules, the_lemmas)

pub measures-Throw : (s : Spot) → measured_head (a_head.Throw s) ≡ measure_head (Head-F.Throw s)
unfolding measured_head
measures-Throw s = search (rules, the_lemmas)

pub measures-Spawn : (s : Spot) → measured_head (a_head.Spawn s) ≡ measure_head (Head-F.Spawn s)
unfolding measured_head
measures-Spawn s = search (rules, the_lemmas)

pub measures-Fn : (fn_ left : Spot) (parameters : Option Parameters) (right arrow : Spot)
    → measured_head (a_head.Fn fn_ left parameters right arrow)
    ≡ measure_head (Head-F.Fn fn_ left parameters right arrow)
unfolding measured_head
measures-Fn fn_ left parameters right arrow = search (rules, the_lemmas)

pub measures-Big : (big : Big) (left : Spot) (generator : Generator) (right : Spot)
    → measured_head (a_head.Big big left generator right)
    ≡ measure_head (Head-F.Big big left (measured_generator generator) right)
unfolding measured_head measured_generator
measures-Big big left generator right = search (rules, the_lemmas)

-- ---- Generator

pub measures-Parallel : (name : Name) (arrow : Spot) (source : Flat)
    → measured_generator (a_generator.Parallel name arrow source)
    ≡ measure_generator (Generator-F.Parallel name arrow (measured_flat source))
unfolding measured_generator measured_flat
measures-Parallel name arrow source = search (rules, the_lemmas)

pub measures-Sequential : (name : Name) (arrow seq left : Spot) (source : Flat) (right : Spot)
    → measured_generator (a_generator.Sequential name arrow seq left source right)
    ≡ measure_generator (Generator-F.Sequential name arrow seq left (measured_flat source) right)
unfolding measured_generator measured_flat
measures-Sequential name arrow seq left source right = search (rules, the_lemmas)

-- ---- Flat

pub measures_flat : (first : Operand) (rest : List FlatPart)
    → measured_flat (roll-Flat (record { first = first; rest = rest }))
    ≡ measure_flat (record { first = measured_operand first; rest = map measured_flat_part rest })
unfolding measured_flat measured_operand measured_flat_part
measures_flat first rest = search (rules, the_lemmas)

pub flat_measures : (x : Flat)
    → measured_flat x
    ≡ measure_flat
    (record {
      first = measured_operand (out-Flat x).first;
      rest = map measured_flat_part (out-Flat x).rest;
    })
unfolding measured_flat measured_operand measured_flat_part
flat_measures x = search (rules, the_lemmas)

-- ---- FlatPart

pub measures-Run : (run : Run)
    → measured_flat_part (a_flat_part.Run run)
    ≡ measure_flat_part (FlatPart-F.Run (measured_run run))
unfolding measured_flat_part measured_run
measures-Run run = search (rules, the_lemmas)

pub measures-Infix : (sign : Sign) (operand : Operand)
    → measured_flat_part (a_flat_part.Infix sign operand)
    ≡ measure_flat_part (FlatPart-F.Infix sign (measured_operand operand))
unfolding measured_flat_part measured_operand
measures-Infix sign operand = search (rules, the_lemmas)

-- ---- Operand

pub measures_operand : (prefix : Option Prefix) (run : Run)
    → measured_operand (roll-Operand (record { prefix = prefix; run = run }))
    ≡ measure_operand (record { prefix = prefix; run = measured_run run })
unfolding measured_operand measured_run
measures_operand prefix run = search (rules, the_lemmas)

pub operand_measures : (x : Operand)
    → measured_operand x
    ≡ measure_operand
    (record { prefix = (out-Operand x).prefix; run = measured_run (out-Operand x).run })
unfolding measured_operand measured_run
operand_measures x = search (rules, the_lemmas)

-- ---- Run

pub measures_run : (first : Atom) (rest : List RunPart)
    → measured_run (roll-Run (record { first = first; rest = rest }))
    ≡ measure_run (record { first = measured_atom first; rest = map measured_run_part rest })
unfolding measured_run measured_atom measured_run_part
measures_run first rest = search (rules, the_lemmas)

pub run_measures : (x : Run)
    → measured_run x
    ≡ measure_run
    (record {
      first = measured_atom (out-Run x).first;
      rest = map measured_run_part (out-Run x).rest;
    })
unfolding measured_run measured_atom measured_run_part
run_measures x = search (rules, the_lemmas)

-- ---- RunPart

pub measures-Atom : (atom : Atom)
    → measured_run_part (a_run_part.Atom atom)
    ≡ measure_run_part (RunPart-F.Atom (measured_atom atom))
unfolding measured_run_part measured_atom
measures-Atom atom = search (rules, the_lemmas)

pub measures-Postfix : (postfix : Postfix)
    → measured_run_part (a_run_part.Postfix postfix)
    ≡ measure_run_part (RunPart-F.Postfix (measured_postfix postfix))
unfolding measured_run_part measured_postfix
measures-Postfix postfix = search (rules, the_lemmas)

-- ---- Postfix

pub measures-Subscript : (left : Spot) (index : Expr) (right : Spot)
    → measured_postfix (a_postfix.Subscript left index right)
    ≡ measure_postfix (Postfix-F.Subscript left (measured_expr index) right)
unfolding measured_postfix measured_expr
measures-Subscript left index right = search (rules, the_lemmas)

pub measures-Power : (power : Spot) (exponent : Atom)
    → measured_postfix (a_postfix.Power power exponent)
    ≡ measure_postfix (Postfix-F.Power power (measured_atom exponent))
unfolding measured_postfix measured_atom
measures-Power power exponent = search (rules, the_lemmas)

pub measures-Field : (dot : Spot) (name : Name)
    → measured_postfix (a_postfix.Field dot name) ≡ measure_postfix (Postfix-F.Field dot name)
unfolding measured_postfix
measures-Field dot name = search (rules, the_lemmas)

pub measures-Call : (dot : Spot) (name : Name) (left : Spot) (arguments : Option ExprList)
    (right : Spot)
    → measured_postfix (a_postfix.Call dot name left arguments right)
    ≡ measure_postfix (Postfix-F.Call dot name left (option_map measured_expr_list arguments) right)
unfolding measured_postfix measured_expr_list
measures-Call dot name left arguments right = search (rules, the_lemmas)

-- ---- Atom

pub measures-Name : (name : Name)
    → measured_atom (an_atom.Name name) ≡ measure_atom (Atom-F.Name name)
unfolding measured_atom
measures-Name name = search (rules, the_lemmas)

pub measures-Number : (value : ℕ) (s : Spot)
    → measured_atom (an_atom.Number value s) ≡ measure_atom (Atom-F.Number value s)
unfolding measured_atom
measures-Number value s = search (rules, the_lemmas)

pub measures-Text : (text : ℕ) (s : Spot)
    → measured_atom (an_atom.Text text s) ≡ measure_atom (Atom-F.Text text s)
unfolding measured_atom
measures-Text text s = search (rules, the_lemmas)

pub measures-True : (s : Spot) → measured_atom (an_atom.True s) ≡ measure_atom (Atom-F.True s)
unfolding measured_atom
measures-True s = search (rules, the_lemmas)

pub measures-False : (s : Spot) → measured_atom (an_atom.False s) ≡ measure_atom (Atom-F.False s)
unfolding measured_atom
measures-False s = search (rules, the_lemmas)

pub measures-Self_ : (s : Spot) → measured_atom (an_atom.Self_ s) ≡ measure_atom (Atom-F.Self_ s)
unfolding measured_atom
measures-Self_ s = search (rules, the_lemmas)

pub measures-Parens : (left : Spot) (contents : Option ExprList) (right : Spot)
    → measured_atom (an_atom.Parens left contents right)
    ≡ measure_atom (Atom-F.Parens left (option_map measured_expr_list contents) right)
unfolding measured_atom measured_expr_list
measures-Parens left contents right = search (rules, the_lemmas)

pub measures-Delimited : (form : Delimited)
    → measured_atom (an_atom.Delimited form)
    ≡ measure_atom (Atom-F.Delimited (measured_delimited form))
unfolding measured_atom measured_delimited
measures-Delimited form = search (rules, the_lemmas)

pub measures-ArrayFill : (spots : FillSpots) (element : TypeTree) (size value : Expr)
    → measured_atom (an_atom.ArrayFill spots element size value)
    ≡ measure_atom (Atom-F.ArrayFill spots element (measured_expr size) (measured_expr value))
unfolding measured_atom measured_expr
measures-ArrayFill spots element size value = search (rules, the_lemmas)

-- ---- ExprList

pub measures_expr_list : (first : Expr) (others : List NextExpr)
    → measured_expr_list (roll-ExprList (record { first = first; others = others }))
    ≡ measure_expr_list
    (record { first = measured_expr first; others = map measured_next_expr others })
unfolding measured_expr_list measured_expr measured_next_expr
measures_expr_list first others = search (rules, the_lemmas)

pub expr_list_measures : (x : ExprList)
    → measured_expr_list x
    ≡ measure_expr_list
    (record {
      first = measured_expr (out-ExprList x).first;
      others = map measured_next_expr (out-ExprList x).others;
    })
unfolding measured_expr_list measured_expr measured_next_expr
expr_list_measures x = search (rules, the_lemmas)

-- ---- NextExpr

pub measures_next_expr : (comma : Spot) (expr : Expr)
    → measured_next_expr (roll-NextExpr (record { comma = comma; expr = expr }))
    ≡ measure_next_expr (record { comma = comma; expr = measured_expr expr })
unfolding measured_next_expr measured_expr
measures_next_expr comma expr = search (rules, the_lemmas)

pub next_expr_measures : (x : NextExpr)
    → measured_next_expr x
    ≡ measure_next_expr
    (record { comma = (out-NextExpr x).comma; expr = measured_expr (out-NextExpr x).expr })
unfolding measured_next_expr measured_expr
next_expr_measures x = search (rules, the_lemmas)
