-- The flat expressions of each expression, by its parts.
use Rattle.std.proofs.Common.{◌≡◌, ℕ, List, [], ◌∷◌, ◌++◌, Option, ap, ◌∙◌}
use Rattle.std.specs.Prelude.{map, option_map}
use Rattle.fort_tree.specs.declared.spot.Spot.{Spot}
use Rattle.fort_tree.specs.declared.spot.Name.{Name}
use Rattle.fort_tree.specs.declared.spot.Sign.{Sign}
use Rattle.fort_tree.specs.declared.expr.Big.{Big}
use Rattle.fort_tree.specs.declared.expr.AssignSign.{AssignSign}
use Rattle.fort_tree.specs.declared.declarations.Parameters.{Parameters}
use Rattle.fort_tree.specs.declared.types.TypeTree.{TypeTree}
use Rattle.fort_tree.specs.declared.delimited.Delimited.{Delimited}
use Rattle.fort_tree.specs.declared.expr.Atom.{Atom}
use Rattle.fort_tree.specs.declared.expr.Atom.TheVariants as an_atom
use Rattle.fort_tree.specs.declared.expr.Expr.{Expr}
use Rattle.fort_tree.specs.declared.expr.FillSpots.{FillSpots}
use Rattle.fort_tree.specs.declared.expr.Expr.TheVariants as an_expr
use Rattle.fort_tree.specs.declared.expr.FlatPart.TheVariants as a_flat_part
use Rattle.fort_tree.specs.declared.expr.Generator.{Generator}
use Rattle.fort_tree.specs.declared.expr.Generator.TheVariants as a_generator
use Rattle.fort_tree.specs.declared.expr.Head.{Head}
use Rattle.fort_tree.specs.declared.expr.Head.TheVariants as a_head
use Rattle.fort_tree.specs.declared.expr.Postfix.{Postfix}
use Rattle.fort_tree.specs.declared.expr.Postfix.TheVariants as a_postfix
use Rattle.fort_tree.specs.declared.expr.RunPart.TheVariants as a_run_part
use Rattle.fort_tree.specs.declared.expr.ExprList.{ExprList, out-ExprList}
use Rattle.fort_tree.specs.declared.expr.Flat.{Flat, out-Flat}
use Rattle.fort_tree.specs.declared.expr.NextExpr.{NextExpr, out-NextExpr}
use Rattle.fort_tree.specs.declared.expr.Operand.{Operand, out-Operand}
use Rattle.fort_tree.specs.declared.expr.Run.{Run, out-Run}
use Rattle.fort_tree.specs.Measuring.{measured_delimited, measured_atom, measured_expr, measured_flat_part, measured_generator, measured_head, measured_postfix, measured_run_part, measured_expr_list, measured_flat, measured_next_expr, measured_operand, measured_run}
use Rattle.fort_tree.specs.declared.grouped.Row.{Row}
use Rattle.fort_tree.specs.Measured.{Measured, Joined, Listed, all_flats, maybe_measured, listed_parts}
use Rattle.fort_tree.specs.Measuring.{row_of}
use Rattle.fort_tree.proofs.MeasuresFlats.{measures-Flat, measures-Assign, measures-Open, measures-OpenAssign, measures-Atomic, measures-Tryatomic, measures-Throw, measures-Spawn, measures-Fn, measures-Big, measures-Parallel, measures-Sequential, flat_measures, measures-Run, measures-Infix, operand_measures, run_measures, measures-Atom, measures-Postfix, measures-Subscript, measures-Power, measures-Field, measures-Call, measures-Name, measures-Number, measures-Text, measures-True, measures-False, measures-Self_, measures-Parens, measures-Delimited, measures-ArrayFill, expr_list_measures, next_expr_measures}
use Rattle.fort_tree_flats.proofs.Lists.{joined, last, two, three}
use Rattle.fort_tree_flats.proofs.Types.{none_in_type, none_in_parameters}

pub flats-Flat : (flat : Flat)
    → (measured_expr (an_expr.Flat flat)).flats ≡ (measured_flat flat).flats
flats-Flat flat = ap (λ (m : Measured). m.flats) (measures-Flat flat)

pub flats-Assign : (target : Flat) (sign : AssignSign) (head : Option Head) (value : Flat)
    → (measured_expr (an_expr.Assign target sign head value)).flats
    ≡ (measured_flat target).flats
    ++ (all_flats (maybe_measured (option_map measured_head head)) ++ (measured_flat value).flats)
flats-Assign target sign head value =
    ap (λ (m : Measured). m.flats) (measures-Assign target sign head value)
    ∙ ap (λ (u : List Row). (measured_flat target).flats ++ u)
    (joined (maybe_measured (option_map measured_head head)) (measured_flat value ∷ []) ∙ ap (λ
    (u : List Row). all_flats (maybe_measured (option_map measured_head head)) ++ u)
    (last (measured_flat value)))

pub flats-Open : (head : Head) (body : Flat)
    → (measured_expr (an_expr.Open head body)).flats
    ≡ (measured_head head).flats ++ (measured_flat body).flats
flats-Open head body =
    ap (λ (m : Measured). m.flats) (measures-Open head body)
    ∙ two (measured_head head) (measured_flat body)

pub flats-OpenAssign : (head : Head) (target : Flat) (sign : AssignSign) (value : Flat)
    → (measured_expr (an_expr.OpenAssign head target sign value)).flats
    ≡ (measured_head head).flats ++ ((measured_flat target).flats ++ (measured_flat value).flats)
flats-OpenAssign head target sign value =
    ap (λ (m : Measured). m.flats) (measures-OpenAssign head target sign value)
    ∙ three (measured_head head) (measured_flat target) (measured_flat value)

pub flats-Atomic : (s : Spot) → (measured_head (a_head.Atomic s)).flats ≡ []
flats-Atomic s = ap (λ (m : Measured). m.flats) (measures-Atomic s)

pub flats-Tryatomic : (s : Spot) → (measured_head (a_head.Tryatomic s)).flats ≡ []
flats-Tryatomic s = ap (λ (m : Measured). m.flats) (measures-Tryatomic s)

pub flats-Throw : (s : Spot) → (measured_head (a_head.Throw s)).flats ≡ []
flats-Throw s = ap (λ (m : Measured). m.flats) (measures-Throw s)

pub flats-Spawn : (s : Spot) → (measured_head (a_head.Spawn s)).flats ≡ []
flats-Spawn s = ap (λ (m : Measured). m.flats) (measures-Spawn s)

pub flats-Fn : (fn_ left : Spot) (parameters : Option Parameters) (right arrow : Spot)
    → (measured_head (a_head.Fn fn_ left parameters right arrow)).flats ≡ []
flats-Fn fn_ left parameters right arrow =
    ap (λ (m : Measured). m.flats) (measures-Fn fn_ left parameters right arrow)
    ∙ none_in_parameters parameters

pub flats-Big : (big : Big) (left : Spot) (generator : Generator) (right : Spot)
    → (measured_head (a_head.Big big left generator right)).flats
    ≡ (measured_generator generator).flats
flats-Big big left generator right =
    ap (λ (m : Measured). m.flats) (measures-Big big left generator right)
    ∙ last (measured_generator generator)

pub flats-Parallel : (name : Name) (arrow : Spot) (source : Flat)
    → (measured_generator (a_generator.Parallel name arrow source)).flats
    ≡ (measured_flat source).flats
flats-Parallel name arrow source =
    ap (λ (m : Measured). m.flats) (measures-Parallel name arrow source)
    ∙ last (measured_flat source)

pub flats-Sequential : (name : Name) (arrow seq left : Spot) (source : Flat) (right : Spot)
    → (measured_generator (a_generator.Sequential name arrow seq left source right)).flats
    ≡ (measured_flat source).flats
flats-Sequential name arrow seq left source right =
    ap (λ (m : Measured). m.flats) (measures-Sequential name arrow seq left source right)
    ∙ last (measured_flat source)

pub flats-Run : (run : Run)
    → (measured_flat_part (a_flat_part.Run run)).unit.flats ≡ (measured_run run).flats
flats-Run run = ap (λ (j : Joined). j.unit.flats) (measures-Run run)

pub flats-Infix : (sign : Sign) (operand : Operand)
    → (measured_flat_part (a_flat_part.Infix sign operand)).unit.flats
    ≡ (measured_operand operand).flats
flats-Infix sign operand = ap (λ (j : Joined). j.unit.flats) (measures-Infix sign operand)

pub flats-Atom : (atom : Atom)
    → (measured_run_part (a_run_part.Atom atom)).flats ≡ (measured_atom atom).flats
flats-Atom atom = ap (λ (m : Measured). m.flats) (measures-Atom atom)

pub flats-Postfix : (postfix : Postfix)
    → (measured_run_part (a_run_part.Postfix postfix)).flats ≡ (measured_postfix postfix).flats
flats-Postfix postfix = ap (λ (m : Measured). m.flats) (measures-Postfix postfix)

pub flats-Subscript : (left : Spot) (index : Expr) (right : Spot)
    → (measured_postfix (a_postfix.Subscript left index right)).flats ≡ (measured_expr index).flats
flats-Subscript left index right =
    ap (λ (m : Measured). m.flats) (measures-Subscript left index right)
    ∙ last (measured_expr index)

pub flats-Power : (power : Spot) (exponent : Atom)
    → (measured_postfix (a_postfix.Power power exponent)).flats ≡ (measured_atom exponent).flats
flats-Power power exponent =
    ap (λ (m : Measured). m.flats) (measures-Power power exponent) ∙ last (measured_atom exponent)

pub flats-Field : (dot : Spot) (name : Name)
    → (measured_postfix (a_postfix.Field dot name)).flats ≡ []
flats-Field dot name = ap (λ (m : Measured). m.flats) (measures-Field dot name)

pub flats-Call : (dot : Spot) (name : Name) (left : Spot) (arguments : Option ExprList)
    (right : Spot)
    → (measured_postfix (a_postfix.Call dot name left arguments right)).flats
    ≡ all_flats (listed_parts (option_map measured_expr_list arguments))
flats-Call dot name left arguments right =
    ap (λ (m : Measured). m.flats) (measures-Call dot name left arguments right)

pub flats-Name : (name : Name) → (measured_atom (an_atom.Name name)).flats ≡ []
flats-Name name = ap (λ (m : Measured). m.flats) (measures-Name name)

pub flats-Number : (value : ℕ) (s : Spot) → (measured_atom (an_atom.Number value s)).flats ≡ []
flats-Number value s = ap (λ (m : Measured). m.flats) (measures-Number value s)

pub flats-Text : (text : ℕ) (s : Spot) → (measured_atom (an_atom.Text text s)).flats ≡ []
flats-Text text s = ap (λ (m : Measured). m.flats) (measures-Text text s)

pub flats-True : (s : Spot) → (measured_atom (an_atom.True s)).flats ≡ []
flats-True s = ap (λ (m : Measured). m.flats) (measures-True s)

pub flats-False : (s : Spot) → (measured_atom (an_atom.False s)).flats ≡ []
flats-False s = ap (λ (m : Measured). m.flats) (measures-False s)

pub flats-Self_ : (s : Spot) → (measured_atom (an_atom.Self_ s)).flats ≡ []
flats-Self_ s = ap (λ (m : Measured). m.flats) (measures-Self_ s)

pub flats-Parens : (left : Spot) (contents : Option ExprList) (right : Spot)
    → (measured_atom (an_atom.Parens left contents right)).flats
    ≡ all_flats (listed_parts (option_map measured_expr_list contents))
flats-Parens left contents right =
    ap (λ (m : Measured). m.flats) (measures-Parens left contents right)

pub flats-Delimited : (form : Delimited)
    → (measured_atom (an_atom.Delimited form)).flats ≡ (measured_delimited form).flats
flats-Delimited form = ap (λ (m : Measured). m.flats) (measures-Delimited form)

pub flats-ArrayFill : (spots : FillSpots) (element : TypeTree) (size value : Expr)
    → (measured_atom (an_atom.ArrayFill spots element size value)).flats
    ≡ (measured_expr size).flats ++ (measured_expr value).flats
flats-ArrayFill spots element size value =
    ap (λ (m : Measured). m.flats) (measures-ArrayFill spots element size value)
    ∙ ap (λ (u : List Row). u ++ all_flats (measured_expr size ∷ measured_expr value ∷ []))
    (none_in_type element) ∙ two (measured_expr size) (measured_expr value)

pub flats_flat : (x : Flat)
    → (measured_flat x).flats
    ≡ row_of x
    ∷ ((measured_operand (out-Flat x).first).flats
    ++ all_flats (map (λ part. part.unit) (map measured_flat_part (out-Flat x).rest)))
flats_flat x = ap (λ (m : Measured). m.flats) (flat_measures x)

pub flats_operand : (x : Operand)
    → (measured_operand x).flats ≡ (measured_run (out-Operand x).run).flats
flats_operand x = ap (λ (m : Measured). m.flats) (operand_measures x)

pub flats_run : (x : Run)
    → (measured_run x).flats
    ≡ (measured_atom (out-Run x).first).flats ++ all_flats (map measured_run_part (out-Run x).rest)
flats_run x = ap (λ (m : Measured). m.flats) (run_measures x)

pub flats_expr_list : (x : ExprList)
    → all_flats (measured_expr_list x).parts
    ≡ (measured_expr (out-ExprList x).first).flats
    ++ all_flats (map measured_next_expr (out-ExprList x).others)
flats_expr_list x = ap (λ (l : Listed). all_flats l.parts) (expr_list_measures x)

pub flats_next_expr : (x : NextExpr)
    → (measured_next_expr x).flats ≡ (measured_expr (out-NextExpr x).expr).flats
flats_next_expr x = ap (λ (m : Measured). m.flats) (next_expr_measures x)
