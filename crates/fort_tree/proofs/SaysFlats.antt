-- The chapter "Grammar": what each expression says, as one level of it.
use Rattle.std.proofs.Common.{◌≡◌, ℕ, List, Option, rules}
use Rattle.std.specs.Prelude.{map, option_map}
use Rattle.fort_tree.specs.declared.spot.Spot.{Spot}
use Rattle.fort_tree.specs.declared.spot.Name.{Name}
use Rattle.fort_tree.specs.declared.spot.Sign.{Sign}
use Rattle.fort_tree.specs.declared.expr.Prefix.{Prefix}
use Rattle.fort_tree.specs.declared.expr.Big.{Big}
use Rattle.fort_tree.specs.declared.expr.AssignSign.{AssignSign}
use Rattle.fort_tree.specs.declared.declarations.Parameters.{Parameters}
use Rattle.fort_tree.specs.declared.types.TypeTree.{TypeTree}
use Rattle.fort_tree.specs.declared.delimited.Delimited.{Delimited, the_lemmas}
use Rattle.fort_tree.specs.declared.expr.Atom.{Atom}
use Rattle.fort_tree.specs.declared.expr.Atom.TheVariants as an_atom
use Rattle.fort_tree.specs.declared.expr.Expr.{Expr}
use Rattle.fort_tree.specs.declared.expr.FillSpots.{FillSpots}
use Rattle.fort_tree.specs.declared.expr.Expr.TheVariants as an_expr
use Rattle.fort_tree.specs.declared.expr.FlatPart.{FlatPart}
use Rattle.fort_tree.specs.declared.expr.FlatPart.TheVariants as a_flat_part
use Rattle.fort_tree.specs.declared.expr.Generator.{Generator}
use Rattle.fort_tree.specs.declared.expr.Generator.TheVariants as a_generator
use Rattle.fort_tree.specs.declared.expr.Head.{Head}
use Rattle.fort_tree.specs.declared.expr.Head.TheVariants as a_head
use Rattle.fort_tree.specs.declared.expr.Postfix.{Postfix}
use Rattle.fort_tree.specs.declared.expr.Postfix.TheVariants as a_postfix
use Rattle.fort_tree.specs.declared.expr.RunPart.{RunPart}
use Rattle.fort_tree.specs.declared.expr.RunPart.TheVariants as a_run_part
use Rattle.fort_tree.specs.declared.expr.ExprList.{ExprList, out-ExprList, roll-ExprList}
use Rattle.fort_tree.specs.declared.expr.Flat.{Flat, out-Flat, roll-Flat}
use Rattle.fort_tree.specs.declared.expr.NextExpr.{NextExpr, out-NextExpr, roll-NextExpr}
use Rattle.fort_tree.specs.declared.expr.Operand.{Operand, out-Operand, roll-Operand}
use Rattle.fort_tree.specs.declared.expr.Run.{Run, out-Run, roll-Run}
use Rattle.fort_tree.specs.declared.delimited.Delimited.TheOpen.{Atom-F, Expr-F, FlatPart-F, Generator-F, Head-F, Postfix-F, RunPart-F}
use Rattle.fort_tree.specs.Yield.{said_delimited, said_atom, said_expr, said_flat_part, said_generator, said_head, said_postfix, said_run_part, said_expr_list, said_flat, said_next_expr, said_operand, said_run}
use Rattle.fort_tree.specs.Flats.{expr_step, head_step, generator_step, flat_step, flat_part_step, operand_step, run_step, run_part_step, postfix_step, atom_step, expr_list_step, next_expr_step}

-- ---- Expr

pub says-Flat : (flat : Flat)
    → said_expr (an_expr.Flat flat) ≡ expr_step (Expr-F.Flat (said_flat flat))
unfolding said_expr said_flat
says-Flat flat = search (rules, the_lemmas)

pub says-Assign : (target : Flat) (sign : AssignSign) (head : Option Head) (value : Flat)
    → said_expr (an_expr.Assign target sign head value)
    ≡ expr_step
    (Expr-F.Assign (said_flat target) sign (option_map said_head head) (said_flat value))
unfolding said_expr said_flat said_head
says-Assign target sign head value = search (rules, the_lemmas)

pub says-Open : (head : Head) (body : Flat)
    → said_expr (an_expr.Open head body) ≡ expr_step (Expr-F.Open (said_head head) (said_flat body))
unfolding said_expr said_head said_flat
says-Open head body = search (rules, the_lemmas)

pub says-OpenAssign : (head : Head) (target : Flat) (sign : AssignSign) (value : Flat)
    → said_expr (an_expr.OpenAssign head target sign value)
    ≡ expr_step (Expr-F.OpenAssign (said_head head) (said_flat target) sign (said_flat value))
unfolding said_expr said_head said_flat
says-OpenAssign head target sign value = search (rules, the_lemmas)

-- ---- Head

pub says-Atomic : (s : Spot) → said_head (a_head.Atomic s) ≡ head_step (Head-F.Atomic s)
unfolding said_head
says-Atomic s = search (rules, the_lemmas)

pub says-Tryatomic : (s : Spot) → said_head (a_head.Tryatomic s) ≡ head_step (Head-F.Tryatomic s)
unfolding said_head
says-Tryatomic s = search (rules, the_lemmas)

pub says-Throw : (s : Spot) → said_head (a_head.Throw s) ≡ head_step (Head-F.Throw s)
unfolding said_head
says-Throw s = search (rules, the_lemmas)

pub says-Spawn : (s : Spot) → said_head (a_head.Spawn s) ≡ head_step (Head-F.Spawn s)
unfolding said_head
says-Spawn s = search (rules, the_lemmas)

pub says-Fn : (fn_ left : Spot) (parameters : Option Parameters) (right arrow : Spot)
    → said_head (a_head.Fn fn_ left parameters right arrow)
    ≡ head_step (Head-F.Fn fn_ left parameters right arrow)
unfolding said_head
says-Fn fn_ left parameters right arrow = search (rules, the_lemmas)

pub says-Big : (big : Big) (left : Spot) (generator : Generator) (right : Spot)
    → said_head (a_head.Big big left generator right)
    ≡ head_step (Head-F.Big big left (said_generator generator) right)
unfolding said_head said_generator
says-Big big left generator right = search (rules, the_lemmas)

-- ---- Generator

pub says-Parallel : (name : Name) (arrow : Spot) (source : Flat)
    → said_generator (a_generator.Parallel name arrow source)
    ≡ generator_step (Generator-F.Parallel name arrow (said_flat source))
unfolding said_generator said_flat
says-Parallel name arrow source = search (rules, the_lemmas)

pub says-Sequential : (name : Name) (arrow seq left : Spot) (source : Flat) (right : Spot)
    → said_generator (a_generator.Sequential name arrow seq left source right)
    ≡ generator_step (Generator-F.Sequential name arrow seq left (said_flat source) right)
unfolding said_generator said_flat
says-Sequential name arrow seq left source right = search (rules, the_lemmas)

-- ---- Flat

pub says_flat : (first : Operand) (rest : List FlatPart)
    → said_flat (roll-Flat (record { first = first; rest = rest }))
    ≡ flat_step (record { first = said_operand first; rest = map said_flat_part rest })
unfolding said_flat said_operand said_flat_part
says_flat first rest = search (rules, the_lemmas)

pub flat_says : (x : Flat)
    → said_flat x
    ≡ flat_step
    (record {
      first = said_operand (out-Flat x).first;
      rest = map said_flat_part (out-Flat x).rest;
    })
unfolding said_flat said_operand said_flat_part
flat_says x = search (rules, the_lemmas)

-- ---- FlatPart

pub says-Run : (run : Run)
    → said_flat_part (a_flat_part.Run run) ≡ flat_part_step (FlatPart-F.Run (said_run run))
unfolding said_flat_part said_run
says-Run run = search (rules, the_lemmas)

pub says-Infix : (sign : Sign) (operand : Operand)
    → said_flat_part (a_flat_part.Infix sign operand)
    ≡ flat_part_step (FlatPart-F.Infix sign (said_operand operand))
unfolding said_flat_part said_operand
says-Infix sign operand = search (rules, the_lemmas)

-- ---- Operand

pub says_operand : (prefix : Option Prefix) (run : Run)
    → said_operand (roll-Operand (record { prefix = prefix; run = run }))
    ≡ operand_step (record { prefix = prefix; run = said_run run })
unfolding said_operand said_run
says_operand prefix run = search (rules, the_lemmas)

pub operand_says : (x : Operand)
    → said_operand x
    ≡ operand_step (record { prefix = (out-Operand x).prefix; run = said_run (out-Operand x).run })
unfolding said_operand said_run
operand_says x = search (rules, the_lemmas)

-- ---- Run

pub says_run : (first : Atom) (rest : List RunPart)
    → said_run (roll-Run (record { first = first; rest = rest }))
    ≡ run_step (record { first = said_atom first; rest = map said_run_part rest })
unfolding said_run said_atom said_run_part
says_run first rest = search (rules, the_lemmas)

pub run_says : (x : Run)
    → said_run x
    ≡ run_step
    (record { first = said_atom (out-Run x).first; rest = map said_run_part (out-Run x).rest })
unfolding said_run said_atom said_run_part
run_says x = search (rules, the_lemmas)

-- ---- RunPart

pub says-Atom : (atom : Atom)
    → said_run_part (a_run_part.Atom atom) ≡ run_part_step (RunPart-F.Atom (said_atom atom))
unfolding said_run_part said_atom
says-Atom atom = search (rules, the_lemmas)

pub says-Postfix : (postfix : Postfix)
    → said_run_part (a_run_part.Postfix postfix)
    ≡ run_part_step (RunPart-F.Postfix (said_postfix postfix))
unfolding said_run_part said_postfix
says-Postfix postfix = search (rules, the_lemmas)

-- ---- Postfix

pub says-Subscript : (left : Spot) (index : Expr) (right : Spot)
    → said_postfix (a_postfix.Subscript left index right)
    ≡ postfix_step (Postfix-F.Subscript left (said_expr index) right)
unfolding said_postfix said_expr
says-Subscript left index right = search (rules, the_lemmas)

pub says-Power : (power : Spot) (exponent : Atom)
    → said_postfix (a_postfix.Power power exponent)
    ≡ postfix_step (Postfix-F.Power power (said_atom exponent))
unfolding said_postfix said_atom
says-Power power exponent = search (rules, the_lemmas)

pub says-Field : (dot : Spot) (name : Name)
    → said_postfix (a_postfix.Field dot name) ≡ postfix_step (Postfix-F.Field dot name)
unfolding said_postfix
says-Field dot name = search (rules, the_lemmas)

pub says-Call : (dot : Spot) (name : Name) (left : Spot) (arguments : Option ExprList)
    (right : Spot)
    → said_postfix (a_postfix.Call dot name left arguments right)
    ≡ postfix_step (Postfix-F.Call dot name left (option_map said_expr_list arguments) right)
unfolding said_postfix said_expr_list
says-Call dot name left arguments right = search (rules, the_lemmas)

-- ---- Atom

pub says-Name : (name : Name) → said_atom (an_atom.Name name) ≡ atom_step (Atom-F.Name name)
unfolding said_atom
says-Name name = search (rules, the_lemmas)

pub says-Number : (value : ℕ) (s : Spot)
    → said_atom (an_atom.Number value s) ≡ atom_step (Atom-F.Number value s)
unfolding said_atom
says-Number value s = search (rules, the_lemmas)

pub says-Text : (text : ℕ) (s : Spot)
    → said_atom (an_atom.Text text s) ≡ atom_step (Atom-F.Text text s)
unfolding said_atom
says-Text text s = search (rules, the_lemmas)

pub says-True : (s : Spot) → said_atom (an_atom.True s) ≡ atom_step (Atom-F.True s)
unfolding said_atom
says-True s = search (rules, the_lemmas)

pub says-False : (s : Spot) → said_atom (an_atom.False s) ≡ atom_step (Atom-F.False s)
unfolding said_atom
says-False s = search (rules, the_lemmas)

pub says-Self_ : (s : Spot) → said_atom (an_atom.Self_ s) ≡ atom_step (Atom-F.Self_ s)
unfolding said_atom
says-Self_ s = search (rules, the_lemmas)

pub says-Parens : (left : Spot) (contents : Option ExprList) (right : Spot)
    → said_atom (an_atom.Parens left contents right)
    ≡ atom_step (Atom-F.Parens left (option_map said_expr_list contents) right)
unfolding said_atom said_expr_list
says-Parens left contents right = search (rules, the_lemmas)

pub says-Delimited : (form : Delimited)
    → said_atom (an_atom.Delimited form) ≡ atom_step (Atom-F.Delimited (said_delimited form))
unfolding said_atom said_delimited
says-Delimited form = search (rules, the_lemmas)

pub says-ArrayFill : (spots : FillSpots) (element : TypeTree) (size value : Expr)
    → said_atom (an_atom.ArrayFill spots element size value)
    ≡ atom_step (Atom-F.ArrayFill spots element (said_expr size) (said_expr value))
unfolding said_atom said_expr
says-ArrayFill spots element size value = search (rules, the_lemmas)

-- ---- ExprList

pub says_expr_list : (first : Expr) (others : List NextExpr)
    → said_expr_list (roll-ExprList (record { first = first; others = others }))
    ≡ expr_list_step (record { first = said_expr first; others = map said_next_expr others })
unfolding said_expr_list said_expr said_next_expr
says_expr_list first others = search (rules, the_lemmas)

pub expr_list_says : (x : ExprList)
    → said_expr_list x
    ≡ expr_list_step
    (record {
      first = said_expr (out-ExprList x).first;
      others = map said_next_expr (out-ExprList x).others;
    })
unfolding said_expr_list said_expr said_next_expr
expr_list_says x = search (rules, the_lemmas)

-- ---- NextExpr

pub says_next_expr : (comma : Spot) (expr : Expr)
    → said_next_expr (roll-NextExpr (record { comma = comma; expr = expr }))
    ≡ next_expr_step (record { comma = comma; expr = said_expr expr })
unfolding said_next_expr said_expr
says_next_expr comma expr = search (rules, the_lemmas)

pub next_expr_says : (x : NextExpr)
    → said_next_expr x
    ≡ next_expr_step
    (record { comma = (out-NextExpr x).comma; expr = said_expr (out-NextExpr x).expr })
unfolding said_next_expr said_expr
next_expr_says x = search (rules, the_lemmas)
