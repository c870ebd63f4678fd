-- The chapter "Types": the names that stand as types in each expression, as one level of it.
use Rattle.std.proofs.Common.{◌≡◌, ℕ, Option, rules}
use Rattle.std.specs.Prelude.{map, option_map}
use Rattle.fort_tree.specs.declared.spot.Spot.{Spot}
use Rattle.fort_tree.specs.declared.spot.Name.{Name}
use Rattle.fort_tree.specs.declared.spot.Sign.{Sign}
use Rattle.fort_tree.specs.declared.expr.Big.{Big}
use Rattle.fort_tree.specs.declared.expr.AssignSign.{AssignSign}
use Rattle.fort_tree.specs.declared.declarations.Parameters.{Parameters}
use Rattle.fort_tree.specs.declared.types.TypeTree.{TypeTree}
use Rattle.fort_tree.specs.declared.delimited.Delimited.{Delimited, the_lemmas}
use Rattle.fort_tree.specs.declared.expr.Atom.{Atom}
use Rattle.fort_tree.specs.declared.expr.Atom.TheVariants as an_atom
use Rattle.fort_tree.specs.declared.expr.Expr.{Expr}
use Rattle.fort_tree.specs.declared.expr.FillSpots.{FillSpots}
use Rattle.fort_tree.specs.declared.expr.Expr.TheVariants as an_expr
use Rattle.fort_tree.specs.declared.expr.FlatPart.TheVariants as a_flat_part
use Rattle.fort_tree.specs.declared.expr.Generator.{Generator}
use Rattle.fort_tree.specs.declared.expr.Generator.TheVariants as a_generator
use Rattle.fort_tree.specs.declared.expr.Head.{Head}
use Rattle.fort_tree.specs.declared.expr.Head.TheVariants as a_head
use Rattle.fort_tree.specs.declared.expr.Postfix.{Postfix}
use Rattle.fort_tree.specs.declared.expr.Postfix.TheVariants as a_postfix
use Rattle.fort_tree.specs.declared.expr.RunPart.TheVariants as a_run_part
use Rattle.fort_tree.specs.declared.expr.ExprList.{ExprList, out-ExprList}
use Rattle.fort_tree.specs.declared.expr.Flat.{Flat, out-Flat}
use Rattle.fort_tree.specs.declared.expr.NextExpr.{NextExpr, out-NextExpr}
use Rattle.fort_tree.specs.declared.expr.Operand.{Operand, out-Operand}
use Rattle.fort_tree.specs.declared.expr.Run.{Run, out-Run}
use Rattle.fort_tree.specs.declared.delimited.Delimited.TheOpen.{Atom-F, Expr-F, FlatPart-F, Generator-F, Head-F, Postfix-F, RunPart-F}
use Rattle.fort_tree_type_names.specs.Mentioning.{mentioned_delimited, mentioned_atom, mentioned_expr, mentioned_flat_part, mentioned_generator, mentioned_head, mentioned_postfix, mentioned_run_part, mentioned_expr_list, mentioned_flat, mentioned_next_expr, mentioned_operand, mentioned_run}
use Rattle.fort_tree_type_names.specs.Mentions.{mention_expr, mention_head, mention_generator, mention_flat, mention_flat_part, mention_operand, mention_run, mention_run_part, mention_postfix, mention_atom, mention_expr_list, mention_next_expr}

-- ---- Expr

pub mentions-Flat : (flat : Flat)
    → mentioned_expr (an_expr.Flat flat) ≡ mention_expr (Expr-F.Flat (mentioned_flat flat))
unfolding mentioned_expr mentioned_flat
mentions-Flat flat = search (rules, the_lemmas)

pub mentions-Assign : (target : Flat) (sign : AssignSign) (head : Option Head) (value : Flat)
    → mentioned_expr (an_expr.Assign target sign head value)
    ≡ mention_expr
    (Expr-F.Assign (mentioned_flat target) sign (option_map mentioned_head head)
    (mentioned_flat value))
unfolding mentioned_expr mentioned_flat mentioned_head
mentions-Assign target sign head value = search (rules, the_lemmas)

pub mentions-Open : (head : Head) (body : Flat)
    → mentioned_expr (an_expr.Open head body)
    ≡ mention_expr (Expr-F.Open (mentioned_head head) (mentioned_flat body))
unfolding mentioned_expr mentioned_head mentioned_flat
mentions-Open head body = search (rules, the_lemmas)

pub mentions-OpenAssign : (head : Head) (target : Flat) (sign : AssignSign) (value : Flat)
    → mentioned_expr (an_expr.OpenAssign head target sign value)
    ≡ mention_expr
    (Expr-F.OpenAssign (mentioned_head head) (mentioned_flat target) sign (mentioned_flat value))
unfolding mentioned_expr mentioned_head mentioned_flat
mentions-OpenAssign head target sign value = search (rules, the_lemmas)

-- ---- Head

pub mentions-Atomic : (s : Spot) → mentioned_head (a_head.Atomic s) ≡ mention_head (Head-F.Atomic s)
unfolding mentioned_head
mentions-Atomic s = search (rules, the_lemmas)

pub mentions-Tryatomic : (s : Spot)
    → mentioned_head (a_head.Tryatomic s) ≡ mention_head (Head-F.Tryatomic s)
unfolding mentioned_head
mentions-Tryatomic s = search (rules, the_lemmas)

pub mentions-Throw : (s : Spot) → mentioned_head (a_head.Throw s) ≡ mention_head (Head-F.Throw s)
unfolding mentioned_head
mentions-Throw s = search (rules, the_lemmas)

pub mentions-Spawn : (s : Spot) → mentioned_head (a_head.Spawn s) ≡ mention_head (Head-F.Spawn s)
unfolding mentioned_head
mentions-Spawn s = search (rules, the_lemmas)

pub mentions-Fn : (fn_ left : Spot) (parameters : Option Parameters) (right arrow : Spot)
    → mentioned_head (a_head.Fn fn_ left parameters right arrow)
    ≡ mention_head (Head-F.Fn fn_ left parameters right arrow)
unfolding mentioned_head
mentions-Fn fn_ left parameters right arrow = search (rules, the_lemmas)

pub mentions-Big : (big : Big) (left : Spot) (generator : Generator) (right : Spot)
    → mentioned_head (a_head.Big big left generator right)
    ≡ mention_head (Head-F.Big big left (mentioned_generator generator) right)
unfolding mentioned_head mentioned_generator
mentions-Big big left generator right = search (rules, the_lemmas)

-- ---- Generator

pub mentions-Parallel : (name : Name) (arrow : Spot) (source : Flat)
    → mentioned_generator (a_generator.Parallel name arrow source)
    ≡ mention_generator (Generator-F.Parallel name arrow (mentioned_flat source))
unfolding mentioned_generator mentioned_flat
mentions-Parallel name arrow source = search (rules, the_lemmas)

pub mentions-Sequential : (name : Name) (arrow seq left : Spot) (source : Flat) (right : Spot)
    → mentioned_generator (a_generator.Sequential name arrow seq left source right)
    ≡ mention_generator (Generator-F.Sequential name arrow seq left (mentioned_flat source) right)
unfolding mentioned_generator mentioned_flat
mentions-Sequential name arrow seq left source right = search (rules, the_lemmas)

-- ---- Flat

pub flat_mentions : (x : Flat)
    → mentioned_flat x
    ≡ mention_flat
    (record {
      first = mentioned_operand (out-Flat x).first;
      rest = map mentioned_flat_part (out-Flat x).rest;
    })
unfolding mentioned_flat mentioned_operand mentioned_flat_part
flat_mentions x = search (rules, the_lemmas)

-- ---- FlatPart

pub mentions-Run : (run : Run)
    → mentioned_flat_part (a_flat_part.Run run)
    ≡ mention_flat_part (FlatPart-F.Run (mentioned_run run))
unfolding mentioned_flat_part mentioned_run
mentions-Run run = search (rules, the_lemmas)

pub mentions-Infix : (sign : Sign) (operand : Operand)
    → mentioned_flat_part (a_flat_part.Infix sign operand)
    ≡ mention_flat_part (FlatPart-F.Infix sign (mentioned_operand operand))
unfolding mentioned_flat_part mentioned_operand
mentions-Infix sign operand = search (rules, the_lemmas)

-- ---- Operand

pub operand_mentions : (x : Operand)
    → mentioned_operand x
    ≡ mention_operand
    (record { prefix = (out-Operand x).prefix; run = mentioned_run (out-Operand x).run })
unfolding mentioned_operand mentioned_run
operand_mentions x = search (rules, the_lemmas)

-- ---- Run

pub run_mentions : (x : Run)
    → mentioned_run x
    ≡ mention_run
    (record {
      first = mentioned_atom (out-Run x).first;
      rest = map mentioned_run_part (out-Run x).rest;
    })
unfolding mentioned_run mentioned_atom mentioned_run_part
run_mentions x = search (rules, the_lemmas)

-- ---- RunPart

pub mentions-Atom : (atom : Atom)
    → mentioned_run_part (a_run_part.Atom atom)
    ≡ mention_run_part (RunPart-F.Atom (mentioned_atom atom))
unfolding mentioned_run_part mentioned_atom
mentions-Atom atom = search (rules, the_lemmas)

pub mentions-Postfix : (postfix : Postfix)
    → mentioned_run_part (a_run_part.Postfix postfix)
    ≡ mention_run_part (RunPart-F.Postfix (mentioned_postfix postfix))
unfolding mentioned_run_part mentioned_postfix
mentions-Postfix postfix = search (rules, the_lemmas)

-- ---- Postfix

pub mentions-Subscript : (left : Spot) (index : Expr) (right : Spot)
    → mentioned_postfix (a_postfix.Subscript left index right)
    ≡ mention_postfix (Postfix-F.Subscript left (mentioned_expr index) right)
unfolding mentioned_postfix mentioned_expr
mentions-Subscript left index right = search (rules, the_lemmas)

pub mentions-Power : (power : Spot) (exponent : Atom)
    → mentioned_postfix (a_postfix.Power power exponent)
    ≡ mention_postfix (Postfix-F.Power power (mentioned_atom exponent))
unfolding mentioned_postfix mentioned_atom
mentions-Power power exponent = search (rules, the_lemmas)

pub mentions-Field : (dot : Spot) (name : Name)
    → mentioned_postfix (a_postfix.Field dot name) ≡ mention_postfix (Postfix-F.Field dot name)
unfolding mentioned_postfix
mentions-Field dot name = search (rules, the_lemmas)

pub mentions-Call : (dot : Spot) (name : Name) (left : Spot) (arguments : Option ExprList)
    (right : Spot)
    → mentioned_postfix (a_postfix.Call dot name left arguments right)
    ≡ mention_postfix
    (Postfix-F.Call dot name left (option_map mentioned_expr_list arguments) right)
unfolding mentioned_postfix mentioned_expr_list
mentions-Call dot name left arguments right = search (rules, the_lemmas)

-- ---- Atom

pub mentions-Name : (name : Name)
    → mentioned_atom (an_atom.Name name) ≡ mention_atom (Atom-F.Name name)
unfolding mentioned_atom
mentions-Name name = search (rules, the_lemmas)

pub mentions-Number : (value : ℕ) (s : Spot)
    → mentioned_atom (an_atom.Number value s) ≡ mention_atom (Atom-F.Number value s)
unfolding mentioned_atom
mentions-Number value s = search (rules, the_lemmas)

pub mentions-Text : (text : ℕ) (s : Spot)
    → mentioned_atom (an_atom.Text text s) ≡ mention_atom (Atom-F.Text text s)
unfolding mentioned_atom
mentions-Text text s = search (rules, the_lemmas)

pub mentions-True : (s : Spot) → mentioned_atom (an_atom.True s) ≡ mention_atom (Atom-F.True s)
unfolding mentioned_atom
mentions-True s = search (rules, the_lemmas)

pub mentions-False : (s : Spot) → mentioned_atom (an_atom.False s) ≡ mention_atom (Atom-F.False s)
unfolding mentioned_atom
mentions-False s = search (rules, the_lemmas)

pub mentions-Self_ : (s : Spot) → mentioned_atom (an_atom.Self_ s) ≡ mention_atom (Atom-F.Self_ s)
unfolding mentioned_atom
mentions-Self_ s = search (rules, the_lemmas)

pub mentions-Parens : (left : Spot) (contents : Option ExprList) (right : Spot)
    → mentioned_atom (an_atom.Parens left contents right)
    ≡ mention_atom (Atom-F.Parens left (option_map mentioned_expr_list contents) right)
unfolding mentioned_atom mentioned_expr_list
mentions-Parens left contents right = search (rules, the_lemmas)

pub mentions-Delimited : (form : Delimited)
    → mentioned_atom (an_atom.Delimited form)
    ≡ mention_atom (Atom-F.Delimited (mentioned_delimited form))
unfolding mentioned_atom mentioned_delimited
mentions-Delimited form = search (rules, the_lemmas)

pub mentions-ArrayFill : (spots : FillSpots) (element : TypeTree) (size value : Expr)
    → mentioned_atom (an_atom.ArrayFill spots element size value)
    ≡ mention_atom (Atom-F.ArrayFill spots element (mentioned_expr size) (mentioned_expr value))
unfolding mentioned_atom mentioned_expr
mentions-ArrayFill spots element size value = search (rules, the_lemmas)

-- ---- ExprList

pub expr_list_mentions : (x : ExprList)
    → mentioned_expr_list x
    ≡ mention_expr_list
    (record {
      first = mentioned_expr (out-ExprList x).first;
      others = map mentioned_next_expr (out-ExprList x).others;
    })
unfolding mentioned_expr_list mentioned_expr mentioned_next_expr
expr_list_mentions x = search (rules, the_lemmas)

-- ---- NextExpr

pub next_expr_mentions : (x : NextExpr)
    → mentioned_next_expr x
    ≡ mention_next_expr
    (record { comma = (out-NextExpr x).comma; expr = mentioned_expr (out-NextExpr x).expr })
unfolding mentioned_next_expr mentioned_expr
next_expr_mentions x = search (rules, the_lemmas)
