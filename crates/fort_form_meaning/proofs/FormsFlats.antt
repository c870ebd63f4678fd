-- The chapter "Typing", forms: the form of each expression, and of each part of one, by its level.
use Rattle.std.proofs.Common.{◌≡◌, ℕ, Option, rules}
use Rattle.std.specs.Prelude.{map, option_map}
use Rattle.fort_tree.specs.declared.spot.Spot.{Spot}
use Rattle.fort_tree.specs.declared.spot.Name.{Name}
use Rattle.fort_tree.specs.declared.spot.Sign.{Sign}
use Rattle.fort_tree.specs.declared.expr.Big.{Big}
use Rattle.fort_tree.specs.declared.expr.AssignSign.{AssignSign}
use Rattle.fort_tree.specs.declared.declarations.Parameters.{Parameters}
use Rattle.fort_tree.specs.declared.types.TypeTree.{TypeTree}
use Rattle.fort_tree.specs.declared.delimited.Delimited.{Delimited, the_lemmas}
use Rattle.fort_tree.specs.declared.expr.Atom.{Atom}
use Rattle.fort_tree.specs.declared.expr.Atom.TheVariants as an_atom
use Rattle.fort_tree.specs.declared.expr.Expr.{Expr}
use Rattle.fort_tree.specs.declared.expr.FillSpots.{FillSpots}
use Rattle.fort_tree.specs.declared.expr.Expr.TheVariants as an_expr
use Rattle.fort_tree.specs.declared.expr.FlatPart.TheVariants as a_flat_part
use Rattle.fort_tree.specs.declared.expr.Generator.{Generator}
use Rattle.fort_tree.specs.declared.expr.Generator.TheVariants as a_generator
use Rattle.fort_tree.specs.declared.expr.Head.{Head}
use Rattle.fort_tree.specs.declared.expr.Head.TheVariants as a_head
use Rattle.fort_tree.specs.declared.expr.Postfix.{Postfix}
use Rattle.fort_tree.specs.declared.expr.Postfix.TheVariants as a_postfix
use Rattle.fort_tree.specs.declared.expr.RunPart.TheVariants as a_run_part
use Rattle.fort_tree.specs.declared.expr.ExprList.{ExprList, out-ExprList}
use Rattle.fort_tree.specs.declared.expr.Flat.{Flat, out-Flat}
use Rattle.fort_tree.specs.declared.expr.NextExpr.{NextExpr, out-NextExpr}
use Rattle.fort_tree.specs.declared.expr.Operand.{Operand, out-Operand}
use Rattle.fort_tree.specs.declared.expr.Run.{Run, out-Run}
use Rattle.fort_tree.specs.declared.delimited.Delimited.TheOpen.{Atom-F, Expr-F, FlatPart-F, Generator-F, Head-F, Postfix-F, RunPart-F}
use Rattle.fort_form_meaning.specs.Source.{Source}
use Rattle.fort_form_meaning.specs.Formed.{formed_delimited, formed_atom, formed_expr, formed_flat_part, formed_generator, formed_head, formed_postfix, formed_run_part, formed_expr_list, formed_flat, formed_next_expr, formed_operand, formed_run}
use Rattle.fort_form_meaning.specs.Forming.{form_expr, form_head, form_generator, form_flat, form_flat_part, form_operand, form_run, form_run_part, form_postfix, form_atom, form_expr_list, form_next_expr}

-- ---- Expr

pub forms-Flat : (k : Source) (flat : Flat)
    → formed_expr k (an_expr.Flat flat) ≡ form_expr (Expr-F.Flat (formed_flat k flat))
unfolding formed_expr formed_flat
forms-Flat k flat = search (rules, the_lemmas)

pub forms-Assign : (k : Source) (target : Flat) (sign : AssignSign) (head : Option Head)
    (value : Flat)
    → formed_expr k (an_expr.Assign target sign head value)
    ≡ form_expr
    (Expr-F.Assign (formed_flat k target) sign (option_map (formed_head k) head)
    (formed_flat k value))
unfolding formed_expr formed_flat formed_head
forms-Assign k target sign head value = search (rules, the_lemmas)

pub forms-Open : (k : Source) (head : Head) (body : Flat)
    → formed_expr k (an_expr.Open head body)
    ≡ form_expr (Expr-F.Open (formed_head k head) (formed_flat k body))
unfolding formed_expr formed_head formed_flat
forms-Open k head body = search (rules, the_lemmas)

pub forms-OpenAssign : (k : Source) (head : Head) (target : Flat) (sign : AssignSign) (value : Flat)
    → formed_expr k (an_expr.OpenAssign head target sign value)
    ≡ form_expr
    (Expr-F.OpenAssign (formed_head k head) (formed_flat k target) sign (formed_flat k value))
unfolding formed_expr formed_head formed_flat
forms-OpenAssign k head target sign value = search (rules, the_lemmas)

-- ---- Head

pub forms-Atomic : (k : Source) (s : Spot)
    → formed_head k (a_head.Atomic s) ≡ form_head k (Head-F.Atomic s)
unfolding formed_head
forms-Atomic k s = search (rules, the_lemmas)

pub forms-Tryatomic : (k : Source) (s : Spot)
    → formed_head k (a_head.Tryatomic s) ≡ form_head k (Head-F.Tryatomic s)
unfolding formed_head
forms-Tryatomic k s = search (rules, the_lemmas)

pub forms-Throw : (k : Source) (s : Spot)
    → formed_head k (a_head.Throw s) ≡ form_head k (Head-F.Throw s)
unfolding formed_head
forms-Throw k s = search (rules, the_lemmas)

pub forms-Spawn : (k : Source) (s : Spot)
    → formed_head k (a_head.Spawn s) ≡ form_head k (Head-F.Spawn s)
unfolding formed_head
forms-Spawn k s = search (rules, the_lemmas)

pub forms-Fn : (k : Source) (fn_ left : Spot) (parameters : Option Parameters) (right arrow : Spot)
    → formed_head k (a_head.Fn fn_ left parameters right arrow)
    ≡ form_head k (Head-F.Fn fn_ left parameters right arrow)
unfolding formed_head
forms-Fn k fn_ left parameters right arrow = search (rules, the_lemmas)

pub forms-Big : (k : Source) (big : Big) (left : Spot) (generator : Generator) (right : Spot)
    → formed_head k (a_head.Big big left generator right)
    ≡ form_head k (Head-F.Big big left (formed_generator k generator) right)
unfolding formed_head formed_generator
forms-Big k big left generator right = search (rules, the_lemmas)

-- ---- Generator

pub forms-Parallel : (k : Source) (name : Name) (arrow : Spot) (source : Flat)
    → formed_generator k (a_generator.Parallel name arrow source)
    ≡ form_generator (Generator-F.Parallel name arrow (formed_flat k source))
unfolding formed_generator formed_flat
forms-Parallel k name arrow source = search (rules, the_lemmas)

pub forms-Sequential : (k : Source) (name : Name) (arrow seq left : Spot) (source : Flat)
    (right : Spot)
    → formed_generator k (a_generator.Sequential name arrow seq left source right)
    ≡ form_generator (Generator-F.Sequential name arrow seq left (formed_flat k source) right)
unfolding formed_generator formed_flat
forms-Sequential k name arrow seq left source right = search (rules, the_lemmas)

-- ---- Flat

pub flat_forms : (k : Source) (x : Flat)
    → formed_flat k x
    ≡ form_flat k
    (record {
      first = formed_operand k (out-Flat x).first;
      rest = map (formed_flat_part k) (out-Flat x).rest;
    })
unfolding formed_flat formed_operand formed_flat_part
flat_forms k x = search (rules, the_lemmas)

-- ---- FlatPart

pub forms-Run : (k : Source) (run : Run)
    → formed_flat_part k (a_flat_part.Run run) ≡ form_flat_part (FlatPart-F.Run (formed_run k run))
unfolding formed_flat_part formed_run
forms-Run k run = search (rules, the_lemmas)

pub forms-Infix : (k : Source) (sign : Sign) (operand : Operand)
    → formed_flat_part k (a_flat_part.Infix sign operand)
    ≡ form_flat_part (FlatPart-F.Infix sign (formed_operand k operand))
unfolding formed_flat_part formed_operand
forms-Infix k sign operand = search (rules, the_lemmas)

-- ---- Operand

pub operand_forms : (k : Source) (x : Operand)
    → formed_operand k x
    ≡ form_operand
    (record { prefix = (out-Operand x).prefix; run = formed_run k (out-Operand x).run })
unfolding formed_operand formed_run
operand_forms k x = search (rules, the_lemmas)

-- ---- Run

pub run_forms : (k : Source) (x : Run)
    → formed_run k x
    ≡ form_run
    (record {
      first = formed_atom k (out-Run x).first;
      rest = map (formed_run_part k) (out-Run x).rest;
    })
unfolding formed_run formed_atom formed_run_part
run_forms k x = search (rules, the_lemmas)

-- ---- RunPart

pub forms-Atom : (k : Source) (atom : Atom)
    → formed_run_part k (a_run_part.Atom atom) ≡ form_run_part (RunPart-F.Atom (formed_atom k atom))
unfolding formed_run_part formed_atom
forms-Atom k atom = search (rules, the_lemmas)

pub forms-Postfix : (k : Source) (postfix : Postfix)
    → formed_run_part k (a_run_part.Postfix postfix)
    ≡ form_run_part (RunPart-F.Postfix (formed_postfix k postfix))
unfolding formed_run_part formed_postfix
forms-Postfix k postfix = search (rules, the_lemmas)

-- ---- Postfix

pub forms-Subscript : (k : Source) (left : Spot) (index : Expr) (right : Spot)
    → formed_postfix k (a_postfix.Subscript left index right)
    ≡ form_postfix (Postfix-F.Subscript left (formed_expr k index) right)
unfolding formed_postfix formed_expr
forms-Subscript k left index right = search (rules, the_lemmas)

pub forms-Power : (k : Source) (power : Spot) (exponent : Atom)
    → formed_postfix k (a_postfix.Power power exponent)
    ≡ form_postfix (Postfix-F.Power power (formed_atom k exponent))
unfolding formed_postfix formed_atom
forms-Power k power exponent = search (rules, the_lemmas)

pub forms-Field : (k : Source) (dot : Spot) (name : Name)
    → formed_postfix k (a_postfix.Field dot name) ≡ form_postfix (Postfix-F.Field dot name)
unfolding formed_postfix
forms-Field k dot name = search (rules, the_lemmas)

pub forms-Call : (k : Source) (dot : Spot) (name : Name) (left : Spot) (arguments : Option ExprList)
    (right : Spot)
    → formed_postfix k (a_postfix.Call dot name left arguments right)
    ≡ form_postfix (Postfix-F.Call dot name left (option_map (formed_expr_list k) arguments) right)
unfolding formed_postfix formed_expr_list
forms-Call k dot name left arguments right = search (rules, the_lemmas)

-- ---- Atom

pub forms-Name : (k : Source) (name : Name)
    → formed_atom k (an_atom.Name name) ≡ form_atom k (Atom-F.Name name)
unfolding formed_atom
forms-Name k name = search (rules, the_lemmas)

pub forms-Number : (k : Source) (value : ℕ) (s : Spot)
    → formed_atom k (an_atom.Number value s) ≡ form_atom k (Atom-F.Number value s)
unfolding formed_atom
forms-Number k value s = search (rules, the_lemmas)

pub forms-Text : (k : Source) (text : ℕ) (s : Spot)
    → formed_atom k (an_atom.Text text s) ≡ form_atom k (Atom-F.Text text s)
unfolding formed_atom
forms-Text k text s = search (rules, the_lemmas)

pub forms-True : (k : Source) (s : Spot)
    → formed_atom k (an_atom.True s) ≡ form_atom k (Atom-F.True s)
unfolding formed_atom
forms-True k s = search (rules, the_lemmas)

pub forms-False : (k : Source) (s : Spot)
    → formed_atom k (an_atom.False s) ≡ form_atom k (Atom-F.False s)
unfolding formed_atom
forms-False k s = search (rules, the_lemmas)

pub forms-Self_ : (k : Source) (s : Spot)
    → formed_atom k (an_atom.Self_ s) ≡ form_atom k (Atom-F.Self_ s)
unfolding formed_atom
forms-Self_ k s = search (rules, the_lemmas)

pub forms-Parens : (k : Source) (left : Spot) (contents : Option ExprList) (right : Spot)
    → formed_atom k (an_atom.Parens left contents right)
    ≡ form_atom k (Atom-F.Parens left (option_map (formed_expr_list k) contents) right)
unfolding formed_atom formed_expr_list
forms-Parens k left contents right = search (rules, the_lemmas)

pub forms-Delimited : (k : Source) (form : Delimited)
    → formed_atom k (an_atom.Delimited form)
    ≡ form_atom k (Atom-F.Delimited (formed_delimited k form))
unfolding formed_atom formed_delimited
forms-Delimited k form = search (rules, the_lemmas)

pub forms-ArrayFill : (k : Source) (spots : FillSpots) (element : TypeTree) (size value : Expr)
    → formed_atom k (an_atom.ArrayFill spots element size value)
    ≡ form_atom k (Atom-F.ArrayFill spots element (formed_expr k size) (formed_expr k value))
unfolding formed_atom formed_expr
forms-ArrayFill k spots element size value = search (rules, the_lemmas)

-- ---- ExprList

pub expr_list_forms : (k : Source) (x : ExprList)
    → formed_expr_list k x
    ≡ form_expr_list
    (record {
      first = formed_expr k (out-ExprList x).first;
      others = map (formed_next_expr k) (out-ExprList x).others;
    })
unfolding formed_expr_list formed_expr formed_next_expr
expr_list_forms k x = search (rules, the_lemmas)

-- ---- NextExpr

pub next_expr_forms : (k : Source) (x : NextExpr)
    → formed_next_expr k x
    ≡ form_next_expr
    (record { comma = (out-NextExpr x).comma; expr = formed_expr k (out-NextExpr x).expr })
unfolding formed_next_expr formed_expr
next_expr_forms k x = search (rules, the_lemmas)

pub ruleset flat_levels = (
  forms-Flat,
  forms-Assign,
  forms-Open,
  forms-OpenAssign,
  forms-Atomic,
  forms-Tryatomic,
  forms-Throw,
  forms-Spawn,
  forms-Fn,
  forms-Big,
  forms-Parallel,
  forms-Sequential,
  flat_forms,
  forms-Run,
  forms-Infix,
  operand_forms,
  run_forms,
  forms-Atom,
  forms-Postfix,
  forms-Subscript,
  forms-Power,
  forms-Field,
  forms-Call,
  forms-Name,
  forms-Number,
  forms-Text,
  forms-True,
  forms-False,
  forms-Self_,
  forms-Parens,
  forms-Delimited,
  forms-ArrayFill,
  expr_list_forms,
  next_expr_forms,
)
