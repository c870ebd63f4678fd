-- The chapter "Grammar": a fact of each form of an expression is a fact of every expression.
use Rattle.std.specs.Prelude.{ℕ, List, Option}
use Rattle.std.proofs.Common.{subst, sym}
use Rattle.fort_tree.specs.declared.spot.Spot.{Spot}
use Rattle.fort_tree.specs.declared.spot.Name.{Name}
use Rattle.fort_tree.specs.declared.spot.Sign.{Sign}
use Rattle.fort_tree.specs.declared.expr.Prefix.{Prefix}
use Rattle.fort_tree.specs.declared.expr.Big.{Big}
use Rattle.fort_tree.specs.declared.expr.AssignSign.{AssignSign}
use Rattle.fort_tree.specs.declared.declarations.Parameters.{Parameters}
use Rattle.fort_tree.specs.declared.types.TypeTree.{TypeTree}
use Rattle.fort_tree.specs.declared.delimited.Delimited.{Delimited}
use Rattle.fort_tree.specs.declared.delimited.Item.{Item}
use Rattle.fort_tree.specs.declared.expr.Atom.{Atom}
use Rattle.fort_tree.specs.declared.expr.Atom.TheVariants as an_atom
use Rattle.fort_tree.specs.declared.expr.Expr.{Expr}
use Rattle.fort_tree.specs.declared.expr.FillSpots.{FillSpots}
use Rattle.fort_tree.specs.declared.expr.Expr.TheVariants as an_expr
use Rattle.fort_tree.specs.declared.expr.FlatPart.{FlatPart}
use Rattle.fort_tree.specs.declared.expr.FlatPart.TheVariants as a_flat_part
use Rattle.fort_tree.specs.declared.expr.Generator.{Generator}
use Rattle.fort_tree.specs.declared.expr.Generator.TheVariants as a_generator
use Rattle.fort_tree.specs.declared.expr.Head.{Head}
use Rattle.fort_tree.specs.declared.expr.Head.TheVariants as a_head
use Rattle.fort_tree.specs.declared.expr.Postfix.{Postfix}
use Rattle.fort_tree.specs.declared.expr.Postfix.TheVariants as a_postfix
use Rattle.fort_tree.specs.declared.expr.RunPart.{RunPart}
use Rattle.fort_tree.specs.declared.expr.RunPart.TheVariants as a_run_part
use Rattle.fort_tree.specs.declared.declarations.Variable.{Variable}
use Rattle.fort_tree.specs.declared.delimited.Also.{Also}
use Rattle.fort_tree.specs.declared.delimited.BlockItem.{BlockItem}
use Rattle.fort_tree.specs.declared.delimited.CaseClause.{CaseClause}
use Rattle.fort_tree.specs.declared.delimited.Catch.{Catch}
use Rattle.fort_tree.specs.declared.delimited.Elif.{Elif}
use Rattle.fort_tree.specs.declared.delimited.ElseBlock.{ElseBlock}
use Rattle.fort_tree.specs.declared.delimited.ElseClause.{ElseClause}
use Rattle.fort_tree.specs.declared.delimited.Finally.{Finally}
use Rattle.fort_tree.specs.declared.delimited.NextGenerator.{NextGenerator}
use Rattle.fort_tree.specs.declared.delimited.TypeClause.{TypeClause}
use Rattle.fort_tree.specs.declared.expr.ExprList.{ExprList}
use Rattle.fort_tree.specs.declared.expr.Flat.{Flat}
use Rattle.fort_tree.specs.declared.expr.NextExpr.{NextExpr}
use Rattle.fort_tree.specs.declared.expr.Operand.{Operand}
use Rattle.fort_tree.specs.declared.expr.Run.{Run}
use Rattle.fort_tree.specs.declared.delimited.Delimited.TheOpen.{Atom-F, Expr-F, FlatPart-F, Generator-F, Head-F, Postfix-F, RunPart-F}
use Rattle.fort_tree.specs.declared.delimited.Delimited.TheViews as views

module _ (P : Expr → Type 0) (of_flat : (flat : Flat) → P (an_expr.Flat flat))
    (of_assign : (target : Flat) (sign : AssignSign) (head : Option Head) (value : Flat)
    → P (an_expr.Assign target sign head value))
    (of_open : (head : Head) (body : Flat) → P (an_expr.Open head body))
    (of_open_assign : (head : Head) (target : Flat) (sign : AssignSign) (value : Flat)
    → P (an_expr.OpenAssign head target sign value)) where
  expr_at : (l : Expr-F Delimited Item Atom Expr FlatPart Generator Head Postfix RunPart Variable
      Also BlockItem CaseClause Catch Elif ElseBlock ElseClause Finally NextGenerator TypeClause
      ExprList Flat NextExpr Operand Run) → P (views.roll-Expr l)
  expr_at (Expr-F.Flat flat) = subst P (sym (views.rolls-Flat flat)) (of_flat flat)
  expr_at (Expr-F.Assign target sign head value) =
      subst P (sym (views.rolls-Assign target sign head value)) (of_assign target sign head value)
  expr_at (Expr-F.Open head body) = subst P (sym (views.rolls-Open head body)) (of_open head body)
  expr_at (Expr-F.OpenAssign head target sign value) =
      subst P (sym (views.rolls-OpenAssign head target sign value))
      (of_open_assign head target sign value)

  pub cases_expr : (x : Expr) → P x
  cases_expr x = subst P (views.roll-out-Expr x) (expr_at (views.out-Expr x))

module _ (P : Head → Type 0) (of_atomic : (s : Spot) → P (a_head.Atomic s))
    (of_tryatomic : (s : Spot) → P (a_head.Tryatomic s))
    (of_throw : (s : Spot) → P (a_head.Throw s))
    (of_spawn : (s : Spot) → P (a_head.Spawn s))
    (of_fn : (fn_ left : Spot) (parameters : Option Parameters) (right arrow : Spot)
    → P (a_head.Fn fn_ left parameters right arrow))
    (of_big : (big : Big) (left : Spot) (generator : Generator) (right : Spot)
    → P (a_head.Big big left generator right)) where
  head_at : (l : Head-F Delimited Item Atom Expr FlatPart Generator Head Postfix RunPart Variable
      Also BlockItem CaseClause Catch Elif ElseBlock ElseClause Finally NextGenerator TypeClause
      ExprList Flat NextExpr Operand Run) → P (views.roll-Head l)
  head_at (Head-F.Atomic s) = subst P (sym (views.rolls-Atomic s)) (of_atomic s)
  head_at (Head-F.Tryatomic s) = subst P (sym (views.rolls-Tryatomic s)) (of_tryatomic s)
  head_at (Head-F.Throw s) = subst P (sym (views.rolls-Throw s)) (of_throw s)
  head_at (Head-F.Spawn s) = subst P (sym (views.rolls-Spawn s)) (of_spawn s)
  head_at (Head-F.Fn fn_ left parameters right arrow) =
      subst P (sym (views.rolls-Fn fn_ left parameters right arrow))
      (of_fn fn_ left parameters right arrow)
  head_at (Head-F.Big big left generator right) =
      subst P (sym (views.rolls-Big big left generator right)) (of_big big left generator right)

  pub cases_head : (x : Head) → P x
  cases_head x = subst P (views.roll-out-Head x) (head_at (views.out-Head x))

module _ (P : Generator → Type 0)
    (of_parallel : (name : Name) (arrow : Spot) (source : Flat)
    → P (a_generator.Parallel name arrow source))
    (of_sequential : (name : Name) (arrow seq left : Spot) (source : Flat) (right : Spot)
    → P (a_generator.Sequential name arrow seq left source right)) where
  generator_at : (l : Generator-F Delimited Item Atom Expr FlatPart Generator Head Postfix RunPart
      Variable Also BlockItem CaseClause Catch Elif ElseBlock ElseClause Finally NextGenerator
      TypeClause ExprList Flat NextExpr Operand Run) → P (views.roll-Generator l)
  generator_at (Generator-F.Parallel name arrow source) =
      subst P (sym (views.rolls-Parallel name arrow source)) (of_parallel name arrow source)
  generator_at (Generator-F.Sequential name arrow seq left source right) =
      subst P (sym (views.rolls-Sequential name arrow seq left source right))
      (of_sequential name arrow seq left source right)

  pub cases_generator : (x : Generator) → P x
  cases_generator x = subst P (views.roll-out-Generator x) (generator_at (views.out-Generator x))

pub cases_flat : (P : Flat → Type 0)
    → ((first : Operand) (rest : List FlatPart)
    → P (views.roll-Flat (record { first = first; rest = rest }))) → (x : Flat) → P x
cases_flat P a x =
    subst P (views.roll-out-Flat x) (a (views.out-Flat x).first (views.out-Flat x).rest)

module _ (P : FlatPart → Type 0) (of_run : (run : Run) → P (a_flat_part.Run run))
    (of_infix : (sign : Sign) (operand : Operand) → P (a_flat_part.Infix sign operand)) where
  flat_part_at : (l : FlatPart-F Delimited Item Atom Expr FlatPart Generator Head Postfix RunPart
      Variable Also BlockItem CaseClause Catch Elif ElseBlock ElseClause Finally NextGenerator
      TypeClause ExprList Flat NextExpr Operand Run) → P (views.roll-FlatPart l)
  flat_part_at (FlatPart-F.Run run) = subst P (sym (views.rolls-Run run)) (of_run run)
  flat_part_at (FlatPart-F.Infix sign operand) =
      subst P (sym (views.rolls-Infix sign operand)) (of_infix sign operand)

  pub cases_flat_part : (x : FlatPart) → P x
  cases_flat_part x = subst P (views.roll-out-FlatPart x) (flat_part_at (views.out-FlatPart x))

pub cases_operand : (P : Operand → Type 0)
    → ((prefix : Option Prefix) (run : Run)
    → P (views.roll-Operand (record { prefix = prefix; run = run }))) → (x : Operand) → P x
cases_operand P a x =
    subst P (views.roll-out-Operand x) (a (views.out-Operand x).prefix (views.out-Operand x).run)

pub cases_run : (P : Run → Type 0)
    → ((first : Atom) (rest : List RunPart)
    → P (views.roll-Run (record { first = first; rest = rest }))) → (x : Run) → P x
cases_run P a x = subst P (views.roll-out-Run x) (a (views.out-Run x).first (views.out-Run x).rest)

module _ (P : RunPart → Type 0) (of_atom : (atom : Atom) → P (a_run_part.Atom atom))
    (of_postfix : (postfix : Postfix) → P (a_run_part.Postfix postfix)) where
  run_part_at : (l : RunPart-F Delimited Item Atom Expr FlatPart Generator Head Postfix RunPart
      Variable Also BlockItem CaseClause Catch Elif ElseBlock ElseClause Finally NextGenerator
      TypeClause ExprList Flat NextExpr Operand Run) → P (views.roll-RunPart l)
  run_part_at (RunPart-F.Atom atom) = subst P (sym (views.rolls-Atom atom)) (of_atom atom)
  run_part_at (RunPart-F.Postfix postfix) =
      subst P (sym (views.rolls-Postfix postfix)) (of_postfix postfix)

  pub cases_run_part : (x : RunPart) → P x
  cases_run_part x = subst P (views.roll-out-RunPart x) (run_part_at (views.out-RunPart x))

module _ (P : Postfix → Type 0)
    (of_subscript : (left : Spot) (index : Expr) (right : Spot)
    → P (a_postfix.Subscript left index right))
    (of_power : (power : Spot) (exponent : Atom) → P (a_postfix.Power power exponent))
    (of_field : (dot : Spot) (name : Name) → P (a_postfix.Field dot name))
    (of_call : (dot : Spot) (name : Name) (left : Spot) (arguments : Option ExprList) (right : Spot)
    → P (a_postfix.Call dot name left arguments right)) where
  postfix_at : (l : Postfix-F Delimited Item Atom Expr FlatPart Generator Head Postfix RunPart
      Variable Also BlockItem CaseClause Catch Elif ElseBlock ElseClause Finally NextGenerator
      TypeClause ExprList Flat NextExpr Operand Run) → P (views.roll-Postfix l)
  postfix_at (Postfix-F.Subscript left index right) =
      subst P (sym (views.rolls-Subscript left index right)) (of_subscript left index right)
  postfix_at (Postfix-F.Power power exponent) =
      subst P (sym (views.rolls-Power power exponent)) (of_power power exponent)
  postfix_at (Postfix-F.Field dot name) =
      subst P (sym (views.rolls-Field dot name)) (of_field dot name)
  postfix_at (Postfix-F.Call dot name left arguments right) =
      subst P (sym (views.rolls-Call dot name left arguments right))
      (of_call dot name left arguments right)

  pub cases_postfix : (x : Postfix) → P x
  cases_postfix x = subst P (views.roll-out-Postfix x) (postfix_at (views.out-Postfix x))

module _ (P : Atom → Type 0) (of_name : (name : Name) → P (an_atom.Name name))
    (of_number : (value : ℕ) (s : Spot) → P (an_atom.Number value s))
    (of_text : (text : ℕ) (s : Spot) → P (an_atom.Text text s))
    (of_true : (s : Spot) → P (an_atom.True s))
    (of_false : (s : Spot) → P (an_atom.False s))
    (of_self : (s : Spot) → P (an_atom.Self_ s))
    (of_parens : (left : Spot) (contents : Option ExprList) (right : Spot)
    → P (an_atom.Parens left contents right))
    (of_delimited : (form : Delimited) → P (an_atom.Delimited form))
    (of_array_fill : (spots : FillSpots) (element : TypeTree) (size value : Expr)
    → P (an_atom.ArrayFill spots element size value)) where
  atom_at : (l : Atom-F Delimited Item Atom Expr FlatPart Generator Head Postfix RunPart Variable
      Also BlockItem CaseClause Catch Elif ElseBlock ElseClause Finally NextGenerator TypeClause
      ExprList Flat NextExpr Operand Run) → P (views.roll-Atom l)
  atom_at (Atom-F.Name name) = subst P (sym (views.rolls-Name name)) (of_name name)
  atom_at (Atom-F.Number value s) = subst P (sym (views.rolls-Number value s)) (of_number value s)
  atom_at (Atom-F.Text text s) = subst P (sym (views.rolls-Text text s)) (of_text text s)
  atom_at (Atom-F.True s) = subst P (sym (views.rolls-True s)) (of_true s)
  atom_at (Atom-F.False s) = subst P (sym (views.rolls-False s)) (of_false s)
  atom_at (Atom-F.Self_ s) = subst P (sym (views.rolls-Self_ s)) (of_self s)
  atom_at (Atom-F.Parens left contents right) =
      subst P (sym (views.rolls-Parens left contents right)) (of_parens left contents right)
  atom_at (Atom-F.Delimited form) = subst P (sym (views.rolls-Delimited form)) (of_delimited form)
  atom_at (Atom-F.ArrayFill spots element size value) =
      subst P (sym (views.rolls-ArrayFill spots element size value))
      (of_array_fill spots element size value)

  pub cases_atom : (x : Atom) → P x
  cases_atom x = subst P (views.roll-out-Atom x) (atom_at (views.out-Atom x))

pub cases_expr_list : (P : ExprList → Type 0)
    → ((first : Expr) (others : List NextExpr)
    → P (views.roll-ExprList (record { first = first; others = others }))) → (x : ExprList)
    → P x
cases_expr_list P a x =
    subst P (views.roll-out-ExprList x)
    (a (views.out-ExprList x).first (views.out-ExprList x).others)

pub cases_next_expr : (P : NextExpr → Type 0)
    → ((comma : Spot) (expr : Expr)
    → P (views.roll-NextExpr (record { comma = comma; expr = expr }))) → (x : NextExpr) → P x
cases_next_expr P a x =
    subst P (views.roll-out-NextExpr x) (a (views.out-NextExpr x).comma (views.out-NextExpr x).expr)
