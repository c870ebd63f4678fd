-- The chapter "Components and APIs": the names that stand as atoms in each expression, as one level
-- of it.
use Rattle.std.proofs.Common.{◌≡◌, ℕ, Option, rules}
use Rattle.std.specs.Prelude.{map, option_map}
use Rattle.fort_tree.specs.declared.spot.Spot.{Spot}
use Rattle.fort_tree.specs.declared.spot.Name.{Name}
use Rattle.fort_tree.specs.declared.spot.Sign.{Sign}
use Rattle.fort_tree.specs.declared.expr.Big.{Big}
use Rattle.fort_tree.specs.declared.expr.AssignSign.{AssignSign}
use Rattle.fort_tree.specs.declared.declarations.Parameters.{Parameters}
use Rattle.fort_tree.specs.declared.types.TypeTree.{TypeTree}
use Rattle.fort_tree.specs.declared.delimited.Delimited.{Delimited, the_lemmas}
use Rattle.fort_tree.specs.declared.expr.Atom.{Atom}
use Rattle.fort_tree.specs.declared.expr.Atom.TheVariants as an_atom
use Rattle.fort_tree.specs.declared.expr.Expr.{Expr}
use Rattle.fort_tree.specs.declared.expr.FillSpots.{FillSpots}
use Rattle.fort_tree.specs.declared.expr.Expr.TheVariants as an_expr
use Rattle.fort_tree.specs.declared.expr.FlatPart.TheVariants as a_flat_part
use Rattle.fort_tree.specs.declared.expr.Generator.{Generator}
use Rattle.fort_tree.specs.declared.expr.Generator.TheVariants as a_generator
use Rattle.fort_tree.specs.declared.expr.Head.{Head}
use Rattle.fort_tree.specs.declared.expr.Head.TheVariants as a_head
use Rattle.fort_tree.specs.declared.expr.Postfix.{Postfix}
use Rattle.fort_tree.specs.declared.expr.Postfix.TheVariants as a_postfix
use Rattle.fort_tree.specs.declared.expr.RunPart.TheVariants as a_run_part
use Rattle.fort_tree.specs.declared.expr.ExprList.{ExprList, out-ExprList}
use Rattle.fort_tree.specs.declared.expr.Flat.{Flat, out-Flat}
use Rattle.fort_tree.specs.declared.expr.NextExpr.{NextExpr, out-NextExpr}
use Rattle.fort_tree.specs.declared.expr.Operand.{Operand, out-Operand}
use Rattle.fort_tree.specs.declared.expr.Run.{Run, out-Run}
use Rattle.fort_tree.specs.declared.delimited.Delimited.TheOpen.{Atom-F, Expr-F, FlatPart-F, Generator-F, Head-F, Postfix-F, RunPart-F}
use Rattle.fort_tree_atoms.specs.AtomsOf.{atoms_of_delimited, atoms_of_atom, atoms_of_expr, atoms_of_flat_part, atoms_of_generator, atoms_of_head, atoms_of_postfix, atoms_of_run_part, atoms_of_expr_list, atoms_of_flat, atoms_of_next_expr, atoms_of_operand, atoms_of_run}
use Rattle.fort_tree_atoms.specs.Gathering.{gather_expr, gather_head, gather_generator, gather_flat, gather_flat_part, gather_operand, gather_run, gather_run_part, gather_postfix, gather_atom, gather_expr_list, gather_next_expr}

-- ---- Expr

pub gathers-Flat : (flat : Flat)
    → atoms_of_expr (an_expr.Flat flat) ≡ gather_expr (Expr-F.Flat (atoms_of_flat flat))
unfolding atoms_of_expr atoms_of_flat
gathers-Flat flat = search (rules, the_lemmas)

pub gathers-Assign : (target : Flat) (sign : AssignSign) (head : Option Head) (value : Flat)
    → atoms_of_expr (an_expr.Assign target sign head value)
    ≡ gather_expr
    (Expr-F.Assign (atoms_of_flat target) sign (option_map atoms_of_head head)
    (atoms_of_flat value))
unfolding atoms_of_expr atoms_of_flat atoms_of_head
gathers-Assign target sign head value = search (rules, the_lemmas)

pub gathers-Open : (head : Head) (body : Flat)
    → atoms_of_expr (an_expr.Open head body)
    ≡ gather_expr (Expr-F.Open (atoms_of_head head) (atoms_of_flat body))
unfolding atoms_of_expr atoms_of_head atoms_of_flat
gathers-Open head body = search (rules, the_lemmas)

pub gathers-OpenAssign : (head : Head) (target : Flat) (sign : AssignSign) (value : Flat)
    → atoms_of_expr (an_expr.OpenAssign head target sign value)
    ≡ gather_expr
    (Expr-F.OpenAssign (atoms_of_head head) (atoms_of_flat target) sign (atoms_of_flat value))
unfolding atoms_of_expr atoms_of_head atoms_of_flat
gathers-OpenAssign head target sign value = search (rules, the_lemmas)

-- ---- Head

pub gathers-Atomic : (s : Spot) → atoms_of_head (a_head.Atomic s) ≡ gather_head (Head-F.Atomic s)
unfolding atoms_of_head
gathers-Atomic s = search (rules, the_lemmas)

pub gathers-Tryatomic : (s : Spot)
    → atoms_of_head (a_head.Tryatomic s) ≡ gather_head (Head-F.Tryatomic s)
unfolding atoms_of_head
gathers-Tryatomic s = search (rules, the_lemmas)

pub gathers-Throw : (s : Spot) → atoms_of_head (a_head.Throw s) ≡ gather_head (Head-F.Throw s)
unfolding atoms_of_head
gathers-Throw s = search (rules, the_lemmas)

pub gathers-Spawn : (s : Spot) → atoms_of_head (a_head.Spawn s) ≡ gather_head (Head-F.Spawn s)
unfolding atoms_of_head
gathers-Spawn s = search (rules, the_lemmas)

pub gathers-Fn : (fn_ left : Spot) (parameters : Option Parameters) (right arrow : Spot)
    → atoms_of_head (a_head.Fn fn_ left parameters right arrow)
    ≡ gather_head (Head-F.Fn fn_ left parameters right arrow)
unfolding atoms_of_head
gathers-Fn fn_ left parameters right arrow = search (rules, the_lemmas)

pub gathers-Big : (big : Big) (left : Spot) (generator : Generator) (right : Spot)
    → atoms_of_head (a_head.Big big left generator right)
    ≡ gather_head (Head-F.Big big left (atoms_of_generator generator) right)
unfolding atoms_of_head atoms_of_generator
gathers-Big big left generator right = search (rules, the_lemmas)

-- ---- Generator

pub gathers-Parallel : (name : Name) (arrow : Spot) (source : Flat)
    → atoms_of_generator (a_generator.Parallel name arrow source)
    ≡ gather_generator (Generator-F.Parallel name arrow (atoms_of_flat source))
unfolding atoms_of_generator atoms_of_flat
gathers-Parallel name arrow source = search (rules, the_lemmas)

pub gathers-Sequential : (name : Name) (arrow seq left : Spot) (source : Flat) (right : Spot)
    → atoms_of_generator (a_generator.Sequential name arrow seq left source right)
    ≡ gather_generator (Generator-F.Sequential name arrow seq left (atoms_of_flat source) right)
unfolding atoms_of_generator atoms_of_flat
gathers-Sequential name arrow seq left source right = search (rules, the_lemmas)

-- ---- Flat

pub flat_gathers : (x : Flat)
    → atoms_of_flat x
    ≡ gather_flat
    (record {
      first = atoms_of_operand (out-Flat x).first;
      rest = map atoms_of_flat_part (out-Flat x).rest;
    })
unfolding atoms_of_flat atoms_of_operand atoms_of_flat_part
flat_gathers x = search (rules, the_lemmas)

-- ---- FlatPart

pub gathers-Run : (run : Run)
    → atoms_of_flat_part (a_flat_part.Run run)
    ≡ gather_flat_part (FlatPart-F.Run (atoms_of_run run))
unfolding atoms_of_flat_part atoms_of_run
gathers-Run run = search (rules, the_lemmas)

pub gathers-Infix : (sign : Sign) (operand : Operand)
    → atoms_of_flat_part (a_flat_part.Infix sign operand)
    ≡ gather_flat_part (FlatPart-F.Infix sign (atoms_of_operand operand))
unfolding atoms_of_flat_part atoms_of_operand
gathers-Infix sign operand = search (rules, the_lemmas)

-- ---- Operand

pub operand_gathers : (x : Operand)
    → atoms_of_operand x
    ≡ gather_operand
    (record { prefix = (out-Operand x).prefix; run = atoms_of_run (out-Operand x).run })
unfolding atoms_of_operand atoms_of_run
operand_gathers x = search (rules, the_lemmas)

-- ---- Run

pub run_gathers : (x : Run)
    → atoms_of_run x
    ≡ gather_run
    (record {
      first = atoms_of_atom (out-Run x).first;
      rest = map atoms_of_run_part (out-Run x).rest;
    })
unfolding atoms_of_run atoms_of_atom atoms_of_run_part
run_gathers x = search (rules, the_lemmas)

-- ---- RunPart

pub gathers-Atom : (atom : Atom)
    → atoms_of_run_part (a_run_part.Atom atom)
    ≡ gather_run_part (RunPart-F.Atom (atoms_of_atom atom))
unfolding atoms_of_run_part atoms_of_atom
gathers-Atom atom = search (rules, the_lemmas)

pub gathers-Postfix : (postfix : Postfix)
    → atoms_of_run_part (a_run_part.Postfix postfix)
    ≡ gather_run_part (RunPart-F.Postfix (atoms_of_postfix postfix))
unfolding atoms_of_run_part atoms_of_postfix
gathers-Postfix postfix = search (rules, the_lemmas)

-- ---- Postfix

pub gathers-Subscript : (left : Spot) (index : Expr) (right : Spot)
    → atoms_of_postfix (a_postfix.Subscript left index right)
    ≡ gather_postfix (Postfix-F.Subscript left (atoms_of_expr index) right)
unfolding atoms_of_postfix atoms_of_expr
gathers-Subscript left index right = search (rules, the_lemmas)

pub gathers-Power : (power : Spot) (exponent : Atom)
    → atoms_of_postfix (a_postfix.Power power exponent)
    ≡ gather_postfix (Postfix-F.Power power (atoms_of_atom exponent))
unfolding atoms_of_postfix atoms_of_atom
gathers-Power power exponent = search (rules, the_lemmas)

pub gathers-Field : (dot : Spot) (name : Name)
    → atoms_of_postfix (a_postfix.Field dot name) ≡ gather_postfix (Postfix-F.Field dot name)
unfolding atoms_of_postfix
gathers-Field dot name = search (rules, the_lemmas)

pub gathers-Call : (dot : Spot) (name : Name) (left : Spot) (arguments : Option ExprList)
    (right : Spot)
    → atoms_of_postfix (a_postfix.Call dot name left arguments right)
    ≡ gather_postfix
    (Postfix-F.Call dot name left (option_map atoms_of_expr_list arguments) right)
unfolding atoms_of_postfix atoms_of_expr_list
gathers-Call dot name left arguments right = search (rules, the_lemmas)

-- ---- Atom

pub gathers-Name : (name : Name)
    → atoms_of_atom (an_atom.Name name) ≡ gather_atom (Atom-F.Name name)
unfolding atoms_of_atom
gathers-Name name = search (rules, the_lemmas)

pub gathers-Number : (value : ℕ) (s : Spot)
    → atoms_of_atom (an_atom.Number value s) ≡ gather_atom (Atom-F.Number value s)
unfolding atoms_of_atom
gathers-Number value s = search (rules, the_lemmas)

pub gathers-Text : (text : ℕ) (s : Spot)
    → atoms_of_atom (an_atom.Text text s) ≡ gather_atom (Atom-F.Text text s)
unfolding atoms_of_atom
gathers-Text text s = search (rules, the_lemmas)

pub gathers-True : (s : Spot) → atoms_of_atom (an_atom.True s) ≡ gather_atom (Atom-F.True s)
unfolding atoms_of_atom
gathers-True s = search (rules, the_lemmas)

pub gathers-False : (s : Spot) → atoms_of_atom (an_atom.False s) ≡ gather_atom (Atom-F.False s)
unfolding atoms_of_atom
gathers-False s = search (rules, the_lemmas)

pub gathers-Self_ : (s : Spot) → atoms_of_atom (an_atom.Self_ s) ≡ gather_atom (Atom-F.Self_ s)
unfolding atoms_of_atom
gathers-Self_ s = search (rules, the_lemmas)

pub gathers-Parens : (left : Spot) (contents : Option ExprList) (right : Spot)
    → atoms_of_atom (an_atom.Parens left contents right)
    ≡ gather_atom (Atom-F.Parens left (option_map atoms_of_expr_list contents) right)
unfolding atoms_of_atom atoms_of_expr_list
gathers-Parens left contents right = search (rules, the_lemmas)

pub gathers-Delimited : (form : Delimited)
    → atoms_of_atom (an_atom.Delimited form)
    ≡ gather_atom (Atom-F.Delimited (atoms_of_delimited form))
unfolding atoms_of_atom atoms_of_delimited
gathers-Delimited form = search (rules, the_lemmas)

pub gathers-ArrayFill : (spots : FillSpots) (element : TypeTree) (size value : Expr)
    → atoms_of_atom (an_atom.ArrayFill spots element size value)
    ≡ gather_atom (Atom-F.ArrayFill spots element (atoms_of_expr size) (atoms_of_expr value))
unfolding atoms_of_atom atoms_of_expr
gathers-ArrayFill spots element size value = search (rules, the_lemmas)

-- ---- ExprList

pub expr_list_gathers : (x : ExprList)
    → atoms_of_expr_list x
    ≡ gather_expr_list
    (record {
      first = atoms_of_expr (out-ExprList x).first;
      others = map atoms_of_next_expr (out-ExprList x).others;
    })
unfolding atoms_of_expr_list atoms_of_expr atoms_of_next_expr
expr_list_gathers x = search (rules, the_lemmas)

-- ---- NextExpr

pub next_expr_gathers : (x : NextExpr)
    → atoms_of_next_expr x
    ≡ gather_next_expr
    (record { comma = (out-NextExpr x).comma; expr = atoms_of_expr (out-NextExpr x).expr })
unfolding atoms_of_next_expr atoms_of_expr
next_expr_gathers x = search (rules, the_lemmas)
