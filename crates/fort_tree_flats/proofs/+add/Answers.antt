use Rattle.std.proofs.Common.{List, [], ◌∷◌, Option, ap, ◌∙◌}
use Rattle.std.specs.Prelude.{map, option_map}
use Rattle.fort_tree.specs.declared.delimited.Delimited.{Delimited}
use Rattle.fort_tree.specs.declared.delimited.Item.{Item}
use Rattle.fort_tree.specs.declared.delimited.Also.{Also}
use Rattle.fort_tree.specs.declared.delimited.Elif.{Elif}
use Rattle.fort_tree.specs.declared.delimited.ElseBlock.{ElseBlock}
use Rattle.fort_tree.specs.declared.delimited.Finally.{Finally}
use Rattle.fort_tree.specs.declared.delimited.NextGenerator.{NextGenerator}
use Rattle.fort_tree.specs.declared.delimited.CaseClause.{CaseClause}
use Rattle.fort_tree.specs.declared.delimited.TypeClause.{TypeClause}
use Rattle.fort_tree.specs.declared.delimited.ElseClause.{ElseClause, out-ElseClause}
use Rattle.fort_tree.specs.declared.declarations.Variable.{Variable}
use Rattle.fort_tree.specs.declared.delimited.Catch.{Catch}
use Rattle.fort_tree.specs.declared.delimited.BlockItem.{BlockItem}
use Rattle.fort_tree.specs.declared.expr.Expr.{Expr}
use Rattle.fort_tree.specs.declared.expr.Head.{Head}
use Rattle.fort_tree.specs.declared.expr.Generator.{Generator}
use Rattle.fort_tree.specs.declared.expr.Flat.{Flat}
use Rattle.fort_tree.specs.declared.expr.FlatPart.{FlatPart}
use Rattle.fort_tree.specs.declared.expr.RunPart.{RunPart}
use Rattle.fort_tree.specs.declared.expr.Postfix.{Postfix}
use Rattle.fort_tree.specs.declared.expr.Atom.{Atom}
use Rattle.fort_tree.specs.declared.expr.NextExpr.{NextExpr}
use Rattle.fort_tree.specs.declared.grouped.Row.{Row}
use Rattle.fort_tree.specs.Measured.{Joined, all_flats, maybe_measured, listed_parts}
use Rattle.fort_tree.specs.Measuring.{measured_also, measured_atom, measured_block_item, measured_case_clause, measured_catch, measured_delimited, measured_elif, measured_else_block, measured_else_clause, measured_expr, measured_finally, measured_flat, measured_flat_part, measured_generator, measured_head, measured_item, measured_next_expr, measured_next_generator, measured_postfix, measured_run_part, measured_type_clause, measured_variable}
use Rattle.fort_tree_flats.proofs.Lists.{last, one_more, one_more_unit}
use Rattle.fort_tree_flats.proofs.Steps.{by, nothing_added, one_added, two_added, three_added, four_added}
use Rattle.fort_tree_flats.proofs.FlatsExpressions.{flats-ArrayFill, flats-Assign, flats-Atom, flats-Atomic, flats-Big, flats-Call, flats-Delimited, flats-False, flats-Field, flats-Flat, flats-Fn, flats-Infix, flats-Name, flats-Number, flats-Open, flats-OpenAssign, flats-Parallel, flats-Parens, flats-Postfix, flats-Power, flats-Run, flats-Self_, flats-Sequential, flats-Subscript, flats-Text, flats-Throw, flats-Spawn, flats-True, flats-Tryatomic, flats_expr_list, flats_flat, flats_next_expr, flats_operand, flats_run}
use Rattle.fort_tree_flats.proofs.FlatsBlocks.{flats-Case, flats-Do, flats-Expr, flats-For, flats-If, flats-Names, flats-Try, flats-Typecase, flats-Variable, flats-While, flats_also, flats_block_item, flats_case_clause, flats_catch, flats_elif, flats_else_block, flats_else_clause, flats_finally, flats_next_generator, flats_type_clause, flats_variable}
use Rattle.fort_tree_flats.proofs.+add.Goals as goal

pub blocks::add_elif-returns : goal.blocks::add_elif-returns
blocks::add_elif-returns t c =
    two_added _ _ _ c.in_ok-add_flat.ensures (by (λ
    (b : List BlockItem). all_flats (map measured_block_item b)) _ c.as_slice.ensures
    c.in_ok-add_block.ensures) (flats_elif c.args.elif.now)

pub blocks::add_form-returns-in_ok-add_alsos-in-Do : goal.blocks::add_form-returns-in_ok-add_alsos-in-Do
blocks::add_form-returns-in_ok-add_alsos-in-Do t c =
    two_added _ _ _ (by (λ
    (b : List BlockItem). all_flats (map measured_block_item b)) _ c.as_slice.ensures
    c.in_ok-add_block-in-Do.ensures) (by (λ
    (l : List Also). all_flats (map measured_also l)) _ c.as_slice-in-Do.ensures
    c.in_ok-add_alsos-in-Do.ensures)
    (ap (λ (x : Delimited). (measured_delimited x).flats) c.in-Do.is ∙ flats-Do _ _ _ _)

pub blocks::add_form-returns-in_ok-add_maybe_else_block-in-If : goal.blocks::add_form-returns-in_ok-add_maybe_else_block-in-If
blocks::add_form-returns-in_ok-add_maybe_else_block-in-If t c =
    four_added _ _ _ _ _ c.in_ok-add_flat-in-If.ensures (by (λ
    (b : List BlockItem). all_flats (map measured_block_item b)) _ c.as_slice-in-If.ensures
    c.in_ok-add_block-in-If.ensures) (by (λ
    (l : List Elif). all_flats (map measured_elif l)) _ c.as_slice-in-If-2.ensures
    c.in_ok-add_elifs-in-If.ensures)
    c.in_ok-add_maybe_else_block-in-If.ensures (ap (λ
    (x : Delimited). (measured_delimited x).flats) c.in-If.is ∙ flats-If _ _ _ _ _ _ _)

pub blocks::add_form-returns-in_ok-add_block-in-While : goal.blocks::add_form-returns-in_ok-add_block-in-While
blocks::add_form-returns-in_ok-add_block-in-While t c =
    two_added _ _ _ c.in_ok-add_flat-in-While.ensures (by (λ
    (b : List BlockItem). all_flats (map measured_block_item b)) _ c.as_slice-in-While.ensures
    c.in_ok-add_block-in-While.ensures) (ap (λ
    (x : Delimited). (measured_delimited x).flats) c.in-While.is ∙ flats-While _ _ _ _ _)

pub blocks::add_form-returns-in_ok-add_block-in-For : goal.blocks::add_form-returns-in_ok-add_block-in-For
blocks::add_form-returns-in_ok-add_block-in-For t c =
    three_added _ _ _ _ (by (λ
    (x : Generator). (measured_generator x).flats) _ c.get.ensures
    c.in_ok-add_generator-in-For.ensures) (by (λ
    (l : List NextGenerator). all_flats (map measured_next_generator l)) _
    c.as_slice-in-For.ensures c.in_ok-add_next_generators-in-For.ensures)
    (by (λ (b : List BlockItem). all_flats (map measured_block_item b)) _
    c.as_slice-in-For-2.ensures c.in_ok-add_block-in-For.ensures) (ap (λ
    (x : Delimited). (measured_delimited x).flats) c.in-For.is ∙ flats-For _ _ _ _ _ _)

pub blocks::add_form-returns-in_ok-add_maybe_else_clause-in-Case : goal.blocks::add_form-returns-in_ok-add_maybe_else_clause-in-Case
blocks::add_form-returns-in_ok-add_maybe_else_clause-in-Case t c =
    three_added _ _ _ _ c.in_ok-add_flat-in-Case.ensures (by (λ
    (l : List CaseClause). all_flats (map measured_case_clause l)) _ c.as_slice-in-Case.ensures
    c.in_ok-add_case_clauses-in-Case.ensures)
    c.in_ok-add_maybe_else_clause-in-Case.ensures (ap (λ
    (x : Delimited). (measured_delimited x).flats) c.in-Case.is ∙ flats-Case _ _ _ _ _ _)

pub blocks::add_form-returns-in_ok-add_maybe_else_clause-in-Typecase : goal.blocks::add_form-returns-in_ok-add_maybe_else_clause-in-Typecase
blocks::add_form-returns-in_ok-add_maybe_else_clause-in-Typecase t c =
    three_added _ _ _ _ c.in_ok-add_flat-in-Typecase.ensures (by (λ
    (l : List TypeClause). all_flats (map measured_type_clause l)) _
    c.as_slice-in-Typecase.ensures c.in_ok-add_type_clauses-in-Typecase.ensures)
    c.in_ok-add_maybe_else_clause-in-Typecase.ensures (ap (λ
    (x : Delimited). (measured_delimited x).flats) c.in-Typecase.is
    ∙ flats-Typecase _ _ _ _ _ _ _ _)

pub blocks::add_form-returns-in_ok-add_maybe_finally-in-Try : goal.blocks::add_form-returns-in_ok-add_maybe_finally-in-Try
blocks::add_form-returns-in_ok-add_maybe_finally-in-Try t c =
    three_added _ _ _ _ (by (λ
    (b : List BlockItem). all_flats (map measured_block_item b)) _ c.as_slice-in-Try.ensures
    c.in_ok-add_block-in-Try.ensures) c.in_ok-add_maybe_catch-in-Try.ensures
    c.in_ok-add_maybe_finally-in-Try.ensures
    (ap (λ (x : Delimited). (measured_delimited x).flats) c.in-Try.is ∙ flats-Try _ _ _ _ _)

pub blocks::add_item-returns-in_ok-add_variable-in-Variable : goal.blocks::add_item-returns-in_ok-add_variable-in-Variable
blocks::add_item-returns-in_ok-add_variable-in-Variable t c =
    one_added _ (by (λ
    (x : Variable). (measured_variable x).flats) _ c.get.ensures
    c.in_ok-add_variable-in-Variable.ensures) (ap (λ
    (x : Item). (measured_item x).flats) c.in-Variable.is ∙ flats-Variable _)

pub blocks::add_item-returns-in_ok-add_expr-in-Names : goal.blocks::add_item-returns-in_ok-add_expr-in-Names
blocks::add_item-returns-in_ok-add_expr-in-Names t c =
    one_added _ (by (λ
    (x : Expr). (measured_expr x).flats) _ c.get-in-Names.ensures
    c.in_ok-add_expr-in-Names.ensures) (ap (λ
    (x : Item). (measured_item x).flats) c.in-Names.is ∙ flats-Names _ _ _ _ _ _ _ _)

pub blocks::add_item-returns-in_ok-add_expr-in-Expr : goal.blocks::add_item-returns-in_ok-add_expr-in-Expr
blocks::add_item-returns-in_ok-add_expr-in-Expr t c =
    one_added _ c.in_ok-add_expr-in-Expr.ensures (ap (λ
    (x : Item). (measured_item x).flats) c.in-Expr.is ∙ flats-Expr _)

pub blocks::add_maybe_else_block-returns-in_ok-add_block : goal.blocks::add_maybe_else_block-returns-in_ok-add_block
blocks::add_maybe_else_block-returns-in_ok-add_block t c =
    one_added _ (by (λ
    (b : List BlockItem). all_flats (map measured_block_item b)) _ c.as_slice.ensures
    c.in_ok-add_block.ensures)
    (ap (λ (o : Option ElseBlock). all_flats (maybe_measured (option_map measured_else_block o)))
    c.in-Some.is ∙ last (measured_else_block c.in-Some.otherwise)
    ∙ flats_else_block c.in-Some.otherwise)

pub blocks::add_maybe_finally-returns-in_ok-add_block : goal.blocks::add_maybe_finally-returns-in_ok-add_block
blocks::add_maybe_finally-returns-in_ok-add_block t c =
    one_added _ (by (λ
    (b : List BlockItem). all_flats (map measured_block_item b)) _ c.as_slice.ensures
    c.in_ok-add_block.ensures)
    (ap (λ (o : Option Finally). all_flats (maybe_measured (option_map measured_finally o)))
    c.in-Some.is ∙ last (measured_finally c.in-Some.finally)
    ∙ flats_finally c.in-Some.finally)

pub blocks::add_variable-returns : goal.blocks::add_variable-returns
blocks::add_variable-returns t c =
    one_added _ c.in_ok-add_expr.ensures (flats_variable c.args.variable.now)

pub clauses::add_case_clause-returns : goal.clauses::add_case_clause-returns
clauses::add_case_clause-returns t c =
    two_added _ _ _ c.in_ok-add_flat.ensures c.in_ok-add_expr.ensures
    (flats_case_clause c.args.clause.now)

pub clauses::add_maybe_catch-returns-in_ok-add_type_clauses : goal.clauses::add_maybe_catch-returns-in_ok-add_type_clauses
clauses::add_maybe_catch-returns-in_ok-add_type_clauses t c =
    one_added _ (by (λ
    (l : List TypeClause). all_flats (map measured_type_clause l)) _ c.as_slice.ensures
    c.in_ok-add_type_clauses.ensures)
    (ap (λ (o : Option Catch). all_flats (listed_parts (option_map measured_catch o))) c.in-Some.is
    ∙ flats_catch c.in-Some.catch)

pub clauses::add_maybe_else_clause-returns-in_ok-add_expr : goal.clauses::add_maybe_else_clause-returns-in_ok-add_expr
clauses::add_maybe_else_clause-returns-in_ok-add_expr t c =
    one_added _ (by (λ
    (x : ElseClause). (measured_expr (out-ElseClause x).value).flats) _ c.get.ensures
    c.in_ok-add_expr.ensures)
    (ap (λ (o : Option ElseClause). all_flats (maybe_measured (option_map measured_else_clause o)))
    c.in-Some.is ∙ last (measured_else_clause c.in-Some.otherwise)
    ∙ flats_else_clause c.in-Some.otherwise)

pub expressions::add_expr-returns-in_ok-add_flat-in-Flat : goal.expressions::add_expr-returns-in_ok-add_flat-in-Flat
expressions::add_expr-returns-in_ok-add_flat-in-Flat t c =
    one_added _ c.in_ok-add_flat-in-Flat.ensures (ap (λ
    (x : Expr). (measured_expr x).flats) c.in-Flat.is ∙ flats-Flat _)

pub expressions::add_expr-returns-in_ok-add_flat-in-Assign-2 : goal.expressions::add_expr-returns-in_ok-add_flat-in-Assign-2
expressions::add_expr-returns-in_ok-add_flat-in-Assign-2 t c =
    three_added _ _ _ _ (by (λ
    (x : Flat). (measured_flat x).flats) _ c.get.ensures c.in_ok-add_flat-in-Assign.ensures)
    c.in_ok-add_maybe_head-in-Assign.ensures (by (λ
    (x : Flat). (measured_flat x).flats) _ c.get-in-Assign.ensures
    c.in_ok-add_flat-in-Assign-2.ensures)
    (ap (λ (x : Expr). (measured_expr x).flats) c.in-Assign.is ∙ flats-Assign _ _ _ _)

pub expressions::add_expr-returns-in_ok-add_flat-in-Open : goal.expressions::add_expr-returns-in_ok-add_flat-in-Open
expressions::add_expr-returns-in_ok-add_flat-in-Open t c =
    two_added _ _ _ (by (λ
    (x : Head). (measured_head x).flats) _ c.get-in-Open.ensures
    c.in_ok-add_head-in-Open.ensures) (by (λ
    (x : Flat). (measured_flat x).flats) _ c.get-in-Open-2.ensures
    c.in_ok-add_flat-in-Open.ensures) (ap (λ
    (x : Expr). (measured_expr x).flats) c.in-Open.is ∙ flats-Open _ _)

pub expressions::add_expr-returns-in_ok-add_flat-in-OpenAssign-2 : goal.expressions::add_expr-returns-in_ok-add_flat-in-OpenAssign-2
expressions::add_expr-returns-in_ok-add_flat-in-OpenAssign-2 t c =
    three_added _ _ _ _ (by (λ
    (x : Head). (measured_head x).flats) _ c.get-in-OpenAssign.ensures
    c.in_ok-add_head-in-OpenAssign.ensures) (by (λ
    (x : Flat). (measured_flat x).flats) _ c.get-in-OpenAssign-2.ensures
    c.in_ok-add_flat-in-OpenAssign.ensures)
    (by (λ (x : Flat). (measured_flat x).flats) _ c.get-in-OpenAssign-3.ensures
    c.in_ok-add_flat-in-OpenAssign-2.ensures) (ap (λ
    (x : Expr). (measured_expr x).flats) c.in-OpenAssign.is ∙ flats-OpenAssign _ _ _ _)

pub expressions::add_generator-returns-in_ok-add_flat-in-Parallel : goal.expressions::add_generator-returns-in_ok-add_flat-in-Parallel
expressions::add_generator-returns-in_ok-add_flat-in-Parallel t c =
    one_added _ c.in_ok-add_flat-in-Parallel.ensures (ap (λ
    (x : Generator). (measured_generator x).flats) c.in-Parallel.is ∙ flats-Parallel _ _ _)

pub expressions::add_generator-returns-in_ok-add_flat-in-Sequential : goal.expressions::add_generator-returns-in_ok-add_flat-in-Sequential
expressions::add_generator-returns-in_ok-add_flat-in-Sequential t c =
    one_added _ c.in_ok-add_flat-in-Sequential.ensures (ap (λ
    (x : Generator). (measured_generator x).flats) c.in-Sequential.is
    ∙ flats-Sequential _ _ _ _ _ _)

pub expressions::add_head-returns-in-Atomic : goal.expressions::add_head-returns-in-Atomic
expressions::add_head-returns-in-Atomic t c =
    nothing_added _ (ap (λ (x : Head). (measured_head x).flats) c.in-Atomic.is ∙ flats-Atomic _)

pub expressions::add_head-returns-in-Tryatomic : goal.expressions::add_head-returns-in-Tryatomic
expressions::add_head-returns-in-Tryatomic t c =
    nothing_added _ (ap (λ
    (x : Head). (measured_head x).flats) c.in-Tryatomic.is ∙ flats-Tryatomic _)

pub expressions::add_head-returns-in-Throw : goal.expressions::add_head-returns-in-Throw
expressions::add_head-returns-in-Throw t c =
    nothing_added _ (ap (λ (x : Head). (measured_head x).flats) c.in-Throw.is ∙ flats-Throw _)

pub expressions::add_head-returns-in-Spawn : goal.expressions::add_head-returns-in-Spawn
expressions::add_head-returns-in-Spawn t c =
    nothing_added _ (ap (λ (x : Head). (measured_head x).flats) c.in-Spawn.is ∙ flats-Spawn _)

pub expressions::add_head-returns-in-Fn : goal.expressions::add_head-returns-in-Fn
expressions::add_head-returns-in-Fn t c =
    nothing_added _ (ap (λ (x : Head). (measured_head x).flats) c.in-Fn.is ∙ flats-Fn _ _ _ _ _)

pub expressions::add_head-returns-in_ok-add_generator-in-Big : goal.expressions::add_head-returns-in_ok-add_generator-in-Big
expressions::add_head-returns-in_ok-add_generator-in-Big t c =
    one_added _ c.in_ok-add_generator-in-Big.ensures (ap (λ
    (x : Head). (measured_head x).flats) c.in-Big.is ∙ flats-Big _ _ _ _)

pub expressions::add_list-returns : goal.expressions::add_list-returns
expressions::add_list-returns t c =
    two_added _ _ _ (by (λ
    (x : Expr). (measured_expr x).flats) _ c.get.ensures c.in_ok-add_expr.ensures) (by (λ
    (l : List NextExpr). all_flats (map measured_next_expr l)) _ c.as_slice.ensures
    c.in_ok-add_next_exprs.ensures)
    (flats_expr_list c.args.list.now)

pub units::add_atom-returns-in-Name : goal.units::add_atom-returns-in-Name
units::add_atom-returns-in-Name t c =
    nothing_added _ (ap (λ (x : Atom). (measured_atom x).flats) c.in-Name.is ∙ flats-Name _)

pub units::add_atom-returns-in-Number : goal.units::add_atom-returns-in-Number
units::add_atom-returns-in-Number t c =
    nothing_added _ (ap (λ (x : Atom). (measured_atom x).flats) c.in-Number.is ∙ flats-Number _ _)

pub units::add_atom-returns-in-Text : goal.units::add_atom-returns-in-Text
units::add_atom-returns-in-Text t c =
    nothing_added _ (ap (λ (x : Atom). (measured_atom x).flats) c.in-Text.is ∙ flats-Text _ _)

pub units::add_atom-returns-in-True : goal.units::add_atom-returns-in-True
units::add_atom-returns-in-True t c =
    nothing_added _ (ap (λ (x : Atom). (measured_atom x).flats) c.in-True.is ∙ flats-True _)

pub units::add_atom-returns-in-False : goal.units::add_atom-returns-in-False
units::add_atom-returns-in-False t c =
    nothing_added _ (ap (λ (x : Atom). (measured_atom x).flats) c.in-False.is ∙ flats-False _)

pub units::add_atom-returns-in-Self_ : goal.units::add_atom-returns-in-Self_
units::add_atom-returns-in-Self_ t c =
    nothing_added _ (ap (λ (x : Atom). (measured_atom x).flats) c.in-Self_.is ∙ flats-Self_ _)

pub units::add_atom-returns-in_ok-add_maybe_list-in-Parens : goal.units::add_atom-returns-in_ok-add_maybe_list-in-Parens
units::add_atom-returns-in_ok-add_maybe_list-in-Parens t c =
    one_added _ c.in_ok-add_maybe_list-in-Parens.ensures (ap (λ
    (x : Atom). (measured_atom x).flats) c.in-Parens.is ∙ flats-Parens _ _ _)

pub units::add_atom-returns-in_ok-add_form-in-Delimited : goal.units::add_atom-returns-in_ok-add_form-in-Delimited
units::add_atom-returns-in_ok-add_form-in-Delimited t c =
    one_added _ (by (λ
    (x : Delimited). (measured_delimited x).flats) _ c.get.ensures
    c.in_ok-add_form-in-Delimited.ensures) (ap (λ
    (x : Atom). (measured_atom x).flats) c.in-Delimited.is ∙ flats-Delimited _)

pub units::add_atom-returns-in_ok-add_expr-in-ArrayFill-2 : goal.units::add_atom-returns-in_ok-add_expr-in-ArrayFill-2
units::add_atom-returns-in_ok-add_expr-in-ArrayFill-2 t c =
    two_added _ _ _ (by (λ
    (x : Expr). (measured_expr x).flats) _ c.get-in-ArrayFill.ensures
    c.in_ok-add_expr-in-ArrayFill.ensures)
    (by (λ (x : Expr). (measured_expr x).flats) _ c.get-in-ArrayFill-2.ensures
    c.in_ok-add_expr-in-ArrayFill-2.ensures) (ap (λ
    (x : Atom). (measured_atom x).flats) c.in-ArrayFill.is ∙ flats-ArrayFill _ _ _ _)

pub units::add_flat-returns : goal.units::add_flat-returns
units::add_flat-returns t c =
    three_added _ _ _ _ (by (λ
    (r : Row). r ∷ []) _ c.in_ok-own.ensures c.in_ok-push.ensures.ok) c.in_ok-add_unit.ensures
    (by (λ (l : List FlatPart). all_flats (map (λ
    (part : Joined). part.unit) (map measured_flat_part l))) _ c.as_slice.ensures
    c.in_ok-add_parts.ensures)
    (flats_flat c.args.flat.now)

pub units::add_part-returns-in_ok-add_run-in-Run : goal.units::add_part-returns-in_ok-add_run-in-Run
units::add_part-returns-in_ok-add_run-in-Run t c =
    one_added _ c.in_ok-add_run-in-Run.ensures (ap (λ
    (x : FlatPart). (measured_flat_part x).unit.flats) c.in-Run.is ∙ flats-Run _)

pub units::add_part-returns-in_ok-add_unit-in-Infix : goal.units::add_part-returns-in_ok-add_unit-in-Infix
units::add_part-returns-in_ok-add_unit-in-Infix t c =
    one_added _ c.in_ok-add_unit-in-Infix.ensures (ap (λ
    (x : FlatPart). (measured_flat_part x).unit.flats) c.in-Infix.is
    ∙ flats-Infix c.in-Infix.field-0 c.in-Infix.unit)

pub units::add_postfix-returns-in_ok-add_expr-in-Subscript : goal.units::add_postfix-returns-in_ok-add_expr-in-Subscript
units::add_postfix-returns-in_ok-add_expr-in-Subscript t c =
    one_added _ (by (λ
    (x : Expr). (measured_expr x).flats) _ c.get.ensures c.in_ok-add_expr-in-Subscript.ensures)
    (ap (λ (x : Postfix). (measured_postfix x).flats) c.in-Subscript.is ∙ flats-Subscript _ _ _)

pub units::add_postfix-returns-in_ok-add_atom-in-Power : goal.units::add_postfix-returns-in_ok-add_atom-in-Power
units::add_postfix-returns-in_ok-add_atom-in-Power t c =
    one_added _ c.in_ok-add_atom-in-Power.ensures (ap (λ
    (x : Postfix). (measured_postfix x).flats) c.in-Power.is ∙ flats-Power _ _)

pub units::add_postfix-returns-in-Field : goal.units::add_postfix-returns-in-Field
units::add_postfix-returns-in-Field t c =
    nothing_added _ (ap (λ
    (x : Postfix). (measured_postfix x).flats) c.in-Field.is ∙ flats-Field _ _)

pub units::add_postfix-returns-in_ok-add_maybe_list-in-Call : goal.units::add_postfix-returns-in_ok-add_maybe_list-in-Call
units::add_postfix-returns-in_ok-add_maybe_list-in-Call t c =
    one_added _ c.in_ok-add_maybe_list-in-Call.ensures (ap (λ
    (x : Postfix). (measured_postfix x).flats) c.in-Call.is ∙ flats-Call _ _ _ _ _)

pub units::add_run-returns : goal.units::add_run-returns
units::add_run-returns t c =
    two_added _ _ _ c.in_ok-add_atom.ensures (by (λ
    (l : List RunPart). all_flats (map measured_run_part l)) _ c.as_slice.ensures
    c.in_ok-add_run_parts.ensures) (flats_run c.args.run.now)

pub units::add_run_part-returns-in_ok-add_atom-in-Atom : goal.units::add_run_part-returns-in_ok-add_atom-in-Atom
units::add_run_part-returns-in_ok-add_atom-in-Atom t c =
    one_added _ c.in_ok-add_atom-in-Atom.ensures (ap (λ
    (x : RunPart). (measured_run_part x).flats) c.in-Atom.is ∙ flats-Atom _)

pub units::add_run_part-returns-in_ok-add_postfix-in-Postfix : goal.units::add_run_part-returns-in_ok-add_postfix-in-Postfix
units::add_run_part-returns-in_ok-add_postfix-in-Postfix t c =
    one_added _ c.in_ok-add_postfix-in-Postfix.ensures (ap (λ
    (x : RunPart). (measured_run_part x).flats) c.in-Postfix.is ∙ flats-Postfix _)

pub units::add_unit-returns : goal.units::add_unit-returns
units::add_unit-returns t c = one_added _ c.in_ok-add_run.ensures (flats_operand c.args.unit.now)

pub blocks::add_alsos-loop-also-preserved : goal.blocks::add_alsos-loop-also-preserved
blocks::add_alsos-loop-also-preserved t c =
    one_more measured_also c.args.others.now c.loop-also.also-index c.also-item.result
    c.args.rows.now c.loop-also.rows _ c.loop-also-test.true c.also-item.is c.loop-also.invariant
    (one_added _ (by (λ
    (b : List BlockItem). all_flats (map measured_block_item b)) _ c.as_slice.ensures
    c.in_ok-add_block.ensures) (flats_also c.also-item.result))

pub blocks::add_block-loop-entry-preserved : goal.blocks::add_block-loop-entry-preserved
blocks::add_block-loop-entry-preserved t c =
    one_more measured_block_item c.args.block.now c.loop-entry.entry-index c.entry-item.result
    c.args.rows.now c.loop-entry.rows _ c.loop-entry-test.true c.entry-item.is
    c.loop-entry.invariant
    (one_added _ c.in_ok-add_item.ensures (flats_block_item c.entry-item.result))

pub blocks::add_elifs-loop-elif-preserved : goal.blocks::add_elifs-loop-elif-preserved
blocks::add_elifs-loop-elif-preserved t c =
    one_more measured_elif c.args.elifs.now c.loop-elif.elif-index c.elif-item.result
    c.args.rows.now c.loop-elif.rows _ c.loop-elif-test.true c.elif-item.is c.loop-elif.invariant
    c.in_ok-add_elif.ensures

pub blocks::add_next_generators-loop-next-preserved : goal.blocks::add_next_generators-loop-next-preserved
blocks::add_next_generators-loop-next-preserved t c =
    one_more measured_next_generator c.args.others.now c.loop-next.next-index c.next-item.result
    c.args.rows.now c.loop-next.rows _ c.loop-next-test.true c.next-item.is c.loop-next.invariant
    (one_added _ c.in_ok-add_generator.ensures (flats_next_generator c.next-item.result))

pub clauses::add_case_clauses-loop-clause-preserved : goal.clauses::add_case_clauses-loop-clause-preserved
clauses::add_case_clauses-loop-clause-preserved t c =
    one_more measured_case_clause c.args.clauses.now c.loop-clause.clause-index c.clause-item.result
    c.args.rows.now c.loop-clause.rows _ c.loop-clause-test.true c.clause-item.is
    c.loop-clause.invariant
    c.in_ok-add_case_clause.ensures

pub clauses::add_type_clauses-loop-clause-preserved : goal.clauses::add_type_clauses-loop-clause-preserved
clauses::add_type_clauses-loop-clause-preserved t c =
    one_more measured_type_clause c.args.clauses.now c.loop-clause.clause-index c.clause-item.result
    c.args.rows.now c.loop-clause.rows _ c.loop-clause-test.true c.clause-item.is
    c.loop-clause.invariant
    (one_added _ c.in_ok-add_expr.ensures (flats_type_clause c.clause-item.result))

pub expressions::add_next_exprs-loop-next-preserved : goal.expressions::add_next_exprs-loop-next-preserved
expressions::add_next_exprs-loop-next-preserved t c =
    one_more measured_next_expr c.args.others.now c.loop-next.next-index c.next-item.result
    c.args.rows.now c.loop-next.rows _ c.loop-next-test.true c.next-item.is c.loop-next.invariant
    (one_added _ c.in_ok-add_expr.ensures (flats_next_expr c.next-item.result))

pub units::add_parts-loop-part-preserved : goal.units::add_parts-loop-part-preserved
units::add_parts-loop-part-preserved t c =
    one_more_unit c.args.parts.now c.loop-part.part-index c.part-item.result c.args.rows.now
    c.loop-part.rows _ c.loop-part-test.true c.part-item.is c.loop-part.invariant
    c.in_ok-add_part.ensures

pub units::add_run_parts-loop-part-preserved : goal.units::add_run_parts-loop-part-preserved
units::add_run_parts-loop-part-preserved t c =
    one_more measured_run_part c.args.parts.now c.loop-part.part-index c.part-item.result
    c.args.rows.now c.loop-part.rows _ c.loop-part-test.true c.part-item.is c.loop-part.invariant
    c.in_ok-add_run_part.ensures
