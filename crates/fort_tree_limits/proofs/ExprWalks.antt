-- The chapter "Grammar", limits: what a walk over each form of an expression finds.
use Rattle.std.proofs.Common.{◌≡◌, ℕ, ◌+◌, ◌++◌, Option, ap, length}
use Rattle.std.specs.Prelude.{map, option_map}
use Rattle.std.proofs.lemmas.List.{length-map}
use Rattle.std.proofs.lemmas.Simd.{map-map}
use Rattle.fort_base.specs.declared.refusal.Place.{Place}
use Rattle.fort_tree.specs.declared.spot.Spot.{Spot}
use Rattle.fort_tree.specs.declared.spot.Name.{Name}
use Rattle.fort_tree.specs.declared.spot.Sign.{Sign}
use Rattle.fort_tree.specs.declared.expr.Big.{Big}
use Rattle.fort_tree.specs.declared.expr.AssignSign.{AssignSign}
use Rattle.fort_tree.specs.declared.declarations.Parameters.{Parameters}
use Rattle.fort_tree.specs.declared.types.TypeTree.{TypeTree}
use Rattle.fort_tree.specs.declared.delimited.Delimited.{Delimited}
use Rattle.fort_tree.specs.declared.expr.Atom.{Atom}
use Rattle.fort_tree.specs.declared.expr.Atom.TheVariants as an_atom
use Rattle.fort_tree.specs.declared.expr.Expr.{Expr}
use Rattle.fort_tree.specs.declared.expr.FillSpots.{FillSpots}
use Rattle.fort_tree.specs.declared.expr.Expr.TheVariants as an_expr
use Rattle.fort_tree.specs.declared.expr.FlatPart.TheVariants as a_flat_part
use Rattle.fort_tree.specs.declared.expr.Generator.{Generator}
use Rattle.fort_tree.specs.declared.expr.Generator.TheVariants as a_generator
use Rattle.fort_tree.specs.declared.expr.Head.{Head}
use Rattle.fort_tree.specs.declared.expr.Head.TheVariants as a_head
use Rattle.fort_tree.specs.declared.expr.Postfix.{Postfix}
use Rattle.fort_tree.specs.declared.expr.Postfix.TheVariants as a_postfix
use Rattle.fort_tree.specs.declared.expr.RunPart.TheVariants as a_run_part
use Rattle.fort_tree.specs.declared.expr.ExprList.{ExprList, out-ExprList}
use Rattle.fort_tree.specs.declared.expr.Flat.{Flat, out-Flat}
use Rattle.fort_tree.specs.declared.expr.NextExpr.{NextExpr, out-NextExpr}
use Rattle.fort_tree.specs.declared.expr.Operand.{Operand, out-Operand}
use Rattle.fort_tree.specs.declared.expr.Run.{Run, out-Run}
use Rattle.fort_tree.specs.Measuring.{measured_delimited, measured_atom, measured_expr, measured_flat_part, measured_generator, measured_head, measured_postfix, measured_run_part, measured_expr_list, measured_flat, measured_next_expr, measured_operand, measured_run}
use Rattle.fort_tree.specs.Types.{parameter_count}
use Rattle.fort_tree.specs.Measured.{all_crowded, listed_parts, maybe_measured, most_parameters, most_tuple_parts, most_units, most_elements, over}
use Rattle.fort_tree.specs.Measures.{measured_type, measured_parameters}
use Rattle.fort_tree.proofs.MeasuresFlats.{measures-Flat, measures-Assign, measures-Open, measures-OpenAssign, measures-Atomic, measures-Tryatomic, measures-Throw, measures-Spawn, measures-Fn, measures-Big, measures-Parallel, measures-Sequential, flat_measures, measures-Run, measures-Infix, operand_measures, run_measures, measures-Atom, measures-Postfix, measures-Subscript, measures-Power, measures-Field, measures-Call, measures-Name, measures-Number, measures-Text, measures-True, measures-False, measures-Self_, measures-Parens, measures-Delimited, measures-ArrayFill, expr_list_measures, next_expr_measures}
use Rattle.fort_tree_limits.specs.Earliest.{earliest}
use Rattle.fort_tree_limits.proofs.EarliestLaws.{all_crowded-append, earliest_append, earliest_none, one_and}

pub walks-Flat : (found : Option Place) (flat : Flat)
    → earliest found (measured_expr (an_expr.Flat flat)).crowded
    ≡ earliest found (measured_flat flat).crowded
walks-Flat found flat = simp measures-Flat

pub walks-Assign : (found : Option Place) (target : Flat) (sign : AssignSign) (head : Option Head)
    (value : Flat)
    → earliest found (measured_expr (an_expr.Assign target sign head value)).crowded
    ≡ earliest
    (earliest (earliest found (measured_flat target).crowded)
    (all_crowded (maybe_measured (option_map measured_head head))))
    (measured_flat value).crowded
walks-Assign found target sign head value =
    simp (measures-Assign, all_crowded-append, earliest_append, earliest_none)

pub walks-Open : (found : Option Place) (head : Head) (body : Flat)
    → earliest found (measured_expr (an_expr.Open head body)).crowded
    ≡ earliest (earliest found (measured_head head).crowded) (measured_flat body).crowded
walks-Open found head body = simp (measures-Open, earliest_append, earliest_none)

pub walks-OpenAssign : (found : Option Place) (head : Head) (target : Flat) (sign : AssignSign)
    (value : Flat)
    → earliest found (measured_expr (an_expr.OpenAssign head target sign value)).crowded
    ≡ earliest
    (earliest (earliest found (measured_head head).crowded) (measured_flat target).crowded)
    (measured_flat value).crowded
walks-OpenAssign found head target sign value =
    simp (measures-OpenAssign, earliest_append, earliest_none)

pub walks-Atomic : (found : Option Place) (s : Spot)
    → earliest found (measured_head (a_head.Atomic s)).crowded ≡ found
walks-Atomic found s = simp (measures-Atomic, earliest_append, earliest_none)

pub walks-Tryatomic : (found : Option Place) (s : Spot)
    → earliest found (measured_head (a_head.Tryatomic s)).crowded ≡ found
walks-Tryatomic found s = simp (measures-Tryatomic, earliest_append, earliest_none)

pub walks-Throw : (found : Option Place) (s : Spot)
    → earliest found (measured_head (a_head.Throw s)).crowded ≡ found
walks-Throw found s = simp (measures-Throw, earliest_append, earliest_none)

pub walks-Spawn : (found : Option Place) (s : Spot)
    → earliest found (measured_head (a_head.Spawn s)).crowded ≡ found
walks-Spawn found s = simp (measures-Spawn, earliest_append, earliest_none)

pub walks-Fn : (found : Option Place) (fn_ left : Spot) (parameters : Option Parameters)
    (right arrow : Spot)
    → earliest found (measured_head (a_head.Fn fn_ left parameters right arrow)).crowded
    ≡ earliest (earliest found (over most_parameters (parameter_count parameters) fn_.place))
    (all_crowded (measured_parameters parameters))
walks-Fn found fn_ left parameters right arrow = simp (measures-Fn, earliest_append)

pub walks-Big : (found : Option Place) (big : Big) (left : Spot) (generator : Generator)
    (right : Spot)
    → earliest found (measured_head (a_head.Big big left generator right)).crowded
    ≡ earliest found (measured_generator generator).crowded
walks-Big found big left generator right = simp (measures-Big, earliest_append, earliest_none)

pub walks-Parallel : (found : Option Place) (name : Name) (arrow : Spot) (source : Flat)
    → earliest found (measured_generator (a_generator.Parallel name arrow source)).crowded
    ≡ earliest found (measured_flat source).crowded
walks-Parallel found name arrow source = simp (measures-Parallel, earliest_append, earliest_none)

pub walks-Sequential : (found : Option Place) (name : Name) (arrow seq left : Spot) (source : Flat)
    (right : Spot)
    → earliest found
    (measured_generator (a_generator.Sequential name arrow seq left source right)).crowded
    ≡ earliest found (measured_flat source).crowded
walks-Sequential found name arrow seq left source right =
    simp (measures-Sequential, earliest_append, earliest_none)

pub flat_walks : (found : Option Place) (x : Flat)
    → earliest found (measured_flat x).crowded
    ≡ earliest
    (earliest
    (earliest found
    (over most_units (1 + length (out-Flat x).rest)
    (measured_operand (out-Flat x).first).spot.place))
    (measured_operand (out-Flat x).first).crowded)
    (all_crowded (map (λ part. (measured_flat_part part).unit) (out-Flat x).rest))
flat_walks found x =
    simp (flat_measures, length-map, map-map, earliest_append)
    (ap (λ n. earliest
    (earliest
    (earliest found (over most_units n (measured_operand (out-Flat x).first).spot.place))
    (measured_operand (out-Flat x).first).crowded)
    (all_crowded (map (λ part. (measured_flat_part part).unit) (out-Flat x).rest)))
    (one_and (length (out-Flat x).rest)))

pub walks-Run : (found : Option Place) (run : Run)
    → earliest found (measured_flat_part (a_flat_part.Run run)).unit.crowded
    ≡ earliest found (measured_run run).crowded
walks-Run found run = simp measures-Run

pub walks-Infix : (found : Option Place) (sign : Sign) (operand : Operand)
    → earliest found (measured_flat_part (a_flat_part.Infix sign operand)).unit.crowded
    ≡ earliest found (measured_operand operand).crowded
walks-Infix found sign operand = simp measures-Infix

pub operand_walks : (found : Option Place) (x : Operand)
    → earliest found (measured_operand x).crowded
    ≡ earliest found (measured_run (out-Operand x).run).crowded
operand_walks found x = simp operand_measures

pub run_walks : (found : Option Place) (x : Run)
    → earliest found (measured_run x).crowded
    ≡ earliest
    (earliest
    (earliest found
    (over most_elements (1 + length (out-Run x).rest)
    (measured_atom (out-Run x).first).spot.place)) (measured_atom (out-Run x).first).crowded)
    (all_crowded (map measured_run_part (out-Run x).rest))
run_walks found x = simp (run_measures, length-map, earliest_append)

pub walks-Atom : (found : Option Place) (atom : Atom)
    → earliest found (measured_run_part (a_run_part.Atom atom)).crowded
    ≡ earliest found (measured_atom atom).crowded
walks-Atom found atom = simp measures-Atom

pub walks-Postfix : (found : Option Place) (postfix : Postfix)
    → earliest found (measured_run_part (a_run_part.Postfix postfix)).crowded
    ≡ earliest found (measured_postfix postfix).crowded
walks-Postfix found postfix = simp measures-Postfix

pub walks-Subscript : (found : Option Place) (left : Spot) (index : Expr) (right : Spot)
    → earliest found (measured_postfix (a_postfix.Subscript left index right)).crowded
    ≡ earliest found (measured_expr index).crowded
walks-Subscript found left index right = simp (measures-Subscript, earliest_append, earliest_none)

pub walks-Power : (found : Option Place) (power : Spot) (exponent : Atom)
    → earliest found (measured_postfix (a_postfix.Power power exponent)).crowded
    ≡ earliest found (measured_atom exponent).crowded
walks-Power found power exponent = simp (measures-Power, earliest_append, earliest_none)

pub walks-Field : (found : Option Place) (dot : Spot) (name : Name)
    → earliest found (measured_postfix (a_postfix.Field dot name)).crowded ≡ found
walks-Field found dot name = simp (measures-Field, earliest_append, earliest_none)

pub walks-Call : (found : Option Place) (dot : Spot) (name : Name) (left : Spot)
    (arguments : Option ExprList) (right : Spot)
    → earliest found (measured_postfix (a_postfix.Call dot name left arguments right)).crowded
    ≡ earliest found (all_crowded (listed_parts (option_map measured_expr_list arguments)))
walks-Call found dot name left arguments right =
    simp (measures-Call, earliest_append, earliest_none)

pub walks-Name : (found : Option Place) (name : Name)
    → earliest found (measured_atom (an_atom.Name name)).crowded ≡ found
walks-Name found name = simp (measures-Name, earliest_append, earliest_none)

pub walks-Number : (found : Option Place) (value : ℕ) (s : Spot)
    → earliest found (measured_atom (an_atom.Number value s)).crowded ≡ found
walks-Number found value s = simp (measures-Number, earliest_append, earliest_none)

pub walks-Text : (found : Option Place) (text : ℕ) (s : Spot)
    → earliest found (measured_atom (an_atom.Text text s)).crowded ≡ found
walks-Text found text s = simp (measures-Text, earliest_append, earliest_none)

pub walks-True : (found : Option Place) (s : Spot)
    → earliest found (measured_atom (an_atom.True s)).crowded ≡ found
walks-True found s = simp (measures-True, earliest_append, earliest_none)

pub walks-False : (found : Option Place) (s : Spot)
    → earliest found (measured_atom (an_atom.False s)).crowded ≡ found
walks-False found s = simp (measures-False, earliest_append, earliest_none)

pub walks-Self_ : (found : Option Place) (s : Spot)
    → earliest found (measured_atom (an_atom.Self_ s)).crowded ≡ found
walks-Self_ found s = simp (measures-Self_, earliest_append, earliest_none)

pub walks-Parens : (found : Option Place) (left : Spot) (contents : Option ExprList) (right : Spot)
    → earliest found (measured_atom (an_atom.Parens left contents right)).crowded
    ≡ earliest found
    (over most_tuple_parts (length (listed_parts (option_map measured_expr_list contents)))
    left.place ++ all_crowded (listed_parts (option_map measured_expr_list contents)))
walks-Parens found left contents right = simp measures-Parens

pub walks-Delimited : (found : Option Place) (form : Delimited)
    → earliest found (measured_atom (an_atom.Delimited form)).crowded
    ≡ earliest found (measured_delimited form).crowded
walks-Delimited found form = simp measures-Delimited

pub walks-ArrayFill : (found : Option Place) (spots : FillSpots) (element : TypeTree)
    (size value : Expr)
    → earliest found (measured_atom (an_atom.ArrayFill spots element size value)).crowded
    ≡ earliest
    (earliest (earliest found (measured_type element).crowded) (measured_expr size).crowded)
    (measured_expr value).crowded
walks-ArrayFill found spots element size value =
    simp (measures-ArrayFill, earliest_append, earliest_none)

pub expr_list_walks : (found : Option Place) (x : ExprList)
    → earliest found (all_crowded (measured_expr_list x).parts)
    ≡ earliest (earliest found (measured_expr (out-ExprList x).first).crowded)
    (all_crowded (map measured_next_expr (out-ExprList x).others))
expr_list_walks found x = simp (expr_list_measures, earliest_append)

pub next_expr_walks : (found : Option Place) (x : NextExpr)
    → earliest found (measured_next_expr x).crowded
    ≡ earliest found (measured_expr (out-NextExpr x).expr).crowded
next_expr_walks found x = simp next_expr_measures

-- how many expressions a list has
pub expr_list_count : (x : ExprList)
    → length (measured_expr_list x).parts ≡ 1 + length (out-ExprList x).others
expr_list_count x = simp (expr_list_measures, length-map) (one_and (length (out-ExprList x).others))
