use Rattle.std.proofs.Common.{List, Option, ap, ◌∙◌}
use Rattle.std.specs.Prelude.{map, option_map}
use Rattle.fort_tree.specs.declared.delimited.Delimited.{Delimited}
use Rattle.fort_tree.specs.declared.delimited.Item.{Item}
use Rattle.fort_tree.specs.declared.delimited.Also.{Also}
use Rattle.fort_tree.specs.declared.delimited.Elif.{Elif}
use Rattle.fort_tree.specs.declared.delimited.ElseBlock.{ElseBlock}
use Rattle.fort_tree.specs.declared.delimited.Finally.{Finally}
use Rattle.fort_tree.specs.declared.delimited.NextGenerator.{NextGenerator}
use Rattle.fort_tree.specs.declared.delimited.CaseClause.{CaseClause}
use Rattle.fort_tree.specs.declared.delimited.TypeClause.{TypeClause}
use Rattle.fort_tree.specs.declared.delimited.ElseClause.{ElseClause, out-ElseClause}
use Rattle.fort_tree.specs.declared.declarations.Variable.{Variable, out-Variable}
use Rattle.fort_tree.specs.declared.delimited.Catch.{Catch}
use Rattle.fort_tree.specs.declared.delimited.BlockItem.{BlockItem}
use Rattle.fort_tree.specs.declared.expr.Expr.{Expr}
use Rattle.fort_tree.specs.declared.expr.ExprList.{ExprList}
use Rattle.fort_tree.specs.declared.expr.Head.{Head}
use Rattle.fort_tree.specs.declared.expr.Generator.{Generator}
use Rattle.fort_tree.specs.declared.expr.Flat.{Flat, out-Flat}
use Rattle.fort_tree.specs.declared.expr.FlatPart.{FlatPart}
use Rattle.fort_tree.specs.declared.expr.RunPart.{RunPart}
use Rattle.fort_tree.specs.declared.expr.Postfix.{Postfix}
use Rattle.fort_tree.specs.declared.expr.Atom.{Atom}
use Rattle.fort_tree.specs.declared.expr.NextExpr.{NextExpr}
use Rattle.fort_tree_atoms.specs.Gathered.{all_atoms, maybe_atoms}
use Rattle.fort_tree_atoms.specs.AtomsOf.{atoms_of_also, atoms_of_atom, atoms_of_block_item, atoms_of_case_clause, atoms_of_catch, atoms_of_delimited, atoms_of_elif, atoms_of_else_block, atoms_of_else_clause, atoms_of_expr, atoms_of_expr_list, atoms_of_finally, atoms_of_flat, atoms_of_flat_part, atoms_of_generator, atoms_of_head, atoms_of_item, atoms_of_next_expr, atoms_of_next_generator, atoms_of_postfix, atoms_of_run_part, atoms_of_type_clause}
use Rattle.fort_tree_atoms.proofs.Steps.{by, nothing_added, one_added, two_added, three_added, four_added, one_more_of}
use Rattle.fort_tree_atoms.proofs.GathersFlats.{gathers-ArrayFill, gathers-Assign, gathers-Atom, gathers-Atomic, gathers-Big, gathers-Call, gathers-Delimited, gathers-False, gathers-Field, gathers-Flat, gathers-Fn, gathers-Infix, gathers-Name, gathers-Number, gathers-Open, gathers-OpenAssign, gathers-Parallel, gathers-Parens, gathers-Postfix, gathers-Power, gathers-Run, gathers-Self_, gathers-Sequential, gathers-Subscript, gathers-Text, gathers-Throw, gathers-Spawn, gathers-True, gathers-Tryatomic, expr_list_gathers, flat_gathers, next_expr_gathers, operand_gathers, run_gathers}
use Rattle.fort_tree_atoms.proofs.GathersBlocks.{gathers-Case, gathers-Do, gathers-Expr, gathers-For, gathers-If, gathers-Names, gathers-Try, gathers-Typecase, gathers-Variable, gathers-While, also_gathers, block_item_gathers, case_clause_gathers, catch_gathers, elif_gathers, else_block_gathers, else_clause_gathers, finally_gathers, next_generator_gathers, type_clause_gathers, variable_gathers}
use Rattle.fort_tree_atoms.proofs.+tree.Goals as goal

pub exprs::add_expr-returns-in_ok-add_flat-in-Flat : goal.exprs::add_expr-returns-in_ok-add_flat-in-Flat
exprs::add_expr-returns-in_ok-add_flat-in-Flat t c =
    one_added _ c.in_ok-add_flat-in-Flat.ensures (ap (λ
    (x : Expr). atoms_of_expr x) c.in-Flat.is ∙ gathers-Flat _)

pub exprs::add_expr-returns-in_ok-add_flat-in-Assign-2 : goal.exprs::add_expr-returns-in_ok-add_flat-in-Assign-2
exprs::add_expr-returns-in_ok-add_flat-in-Assign-2 t c =
    three_added _ _ _ _ (by (λ
    (x : Flat). atoms_of_flat x) _ c.get.ensures c.in_ok-add_flat-in-Assign.ensures)
    c.in_ok-add_maybe_head-in-Assign.ensures (by (λ
    (x : Flat). atoms_of_flat x) _ c.get-in-Assign.ensures
    c.in_ok-add_flat-in-Assign-2.ensures) (ap (λ
    (x : Expr). atoms_of_expr x) c.in-Assign.is ∙ gathers-Assign _ _ _ _)

pub exprs::add_expr-returns-in_ok-add_flat-in-Open : goal.exprs::add_expr-returns-in_ok-add_flat-in-Open
exprs::add_expr-returns-in_ok-add_flat-in-Open t c =
    two_added _ _ _ (by (λ
    (x : Head). atoms_of_head x) _ c.get-in-Open.ensures c.in_ok-add_head-in-Open.ensures)
    (by (λ (x : Flat). atoms_of_flat x) _ c.get-in-Open-2.ensures c.in_ok-add_flat-in-Open.ensures)
    (ap (λ (x : Expr). atoms_of_expr x) c.in-Open.is ∙ gathers-Open _ _)

pub exprs::add_expr-returns-in_ok-add_flat-in-OpenAssign-2 : goal.exprs::add_expr-returns-in_ok-add_flat-in-OpenAssign-2
exprs::add_expr-returns-in_ok-add_flat-in-OpenAssign-2 t c =
    three_added _ _ _ _ (by (λ
    (x : Head). atoms_of_head x) _ c.get-in-OpenAssign.ensures
    c.in_ok-add_head-in-OpenAssign.ensures) (by (λ
    (x : Flat). atoms_of_flat x) _ c.get-in-OpenAssign-2.ensures
    c.in_ok-add_flat-in-OpenAssign.ensures) (by (λ
    (x : Flat). atoms_of_flat x) _ c.get-in-OpenAssign-3.ensures
    c.in_ok-add_flat-in-OpenAssign-2.ensures) (ap (λ
    (x : Expr). atoms_of_expr x) c.in-OpenAssign.is ∙ gathers-OpenAssign _ _ _ _)

pub exprs::add_maybe_head-returns-in_ok-add_head : goal.exprs::add_maybe_head-returns-in_ok-add_head
exprs::add_maybe_head-returns-in_ok-add_head t c =
    one_added _ (by (λ
    (x : Head). atoms_of_head x) _ c.get.ensures c.in_ok-add_head.ensures) (ap (λ
    (o : Option Head). maybe_atoms (option_map atoms_of_head o)) c.in-Some.is)

pub exprs::add_head-returns-in-Atomic : goal.exprs::add_head-returns-in-Atomic
exprs::add_head-returns-in-Atomic t c =
    nothing_added _ (ap (λ (x : Head). atoms_of_head x) c.in-Atomic.is ∙ gathers-Atomic _)

pub exprs::add_head-returns-in-Tryatomic : goal.exprs::add_head-returns-in-Tryatomic
exprs::add_head-returns-in-Tryatomic t c =
    nothing_added _ (ap (λ (x : Head). atoms_of_head x) c.in-Tryatomic.is ∙ gathers-Tryatomic _)

pub exprs::add_head-returns-in-Throw : goal.exprs::add_head-returns-in-Throw
exprs::add_head-returns-in-Throw t c =
    nothing_added _ (ap (λ (x : Head). atoms_of_head x) c.in-Throw.is ∙ gathers-Throw _)

pub exprs::add_head-returns-in-Spawn : goal.exprs::add_head-returns-in-Spawn
exprs::add_head-returns-in-Spawn t c =
    nothing_added _ (ap (λ (x : Head). atoms_of_head x) c.in-Spawn.is ∙ gathers-Spawn _)

pub exprs::add_head-returns-in-Fn : goal.exprs::add_head-returns-in-Fn
exprs::add_head-returns-in-Fn t c =
    nothing_added _ (ap (λ (x : Head). atoms_of_head x) c.in-Fn.is ∙ gathers-Fn _ _ _ _ _)

pub exprs::add_head-returns-in_ok-add_generator-in-Big : goal.exprs::add_head-returns-in_ok-add_generator-in-Big
exprs::add_head-returns-in_ok-add_generator-in-Big t c =
    one_added _ c.in_ok-add_generator-in-Big.ensures (ap (λ
    (x : Head). atoms_of_head x) c.in-Big.is ∙ gathers-Big _ _ _ _)

pub exprs::add_generator-returns-in_ok-add_flat-in-Parallel : goal.exprs::add_generator-returns-in_ok-add_flat-in-Parallel
exprs::add_generator-returns-in_ok-add_flat-in-Parallel t c =
    one_added _ c.in_ok-add_flat-in-Parallel.ensures (ap (λ
    (x : Generator). atoms_of_generator x) c.in-Parallel.is ∙ gathers-Parallel _ _ _)

pub exprs::add_generator-returns-in_ok-add_flat-in-Sequential : goal.exprs::add_generator-returns-in_ok-add_flat-in-Sequential
exprs::add_generator-returns-in_ok-add_flat-in-Sequential t c =
    one_added _ c.in_ok-add_flat-in-Sequential.ensures (ap (λ
    (x : Generator). atoms_of_generator x) c.in-Sequential.is
    ∙ gathers-Sequential _ _ _ _ _ _)

pub exprs::add_flat-returns : goal.exprs::add_flat-returns
exprs::add_flat-returns t c =
    two_added _ _ _
    (one_added _ c.in_ok-add_run.ensures (operand_gathers (out-Flat c.args.flat.now).first))
    (by (λ (l : List FlatPart). all_atoms (map atoms_of_flat_part l)) _ c.as_slice.ensures
    c.in_ok-add_flat_parts.ensures) (flat_gathers c.args.flat.now)

pub exprs::add_flat_parts-loop-part-preserved : goal.exprs::add_flat_parts-loop-part-preserved
exprs::add_flat_parts-loop-part-preserved t c =
    one_more_of atoms_of_flat_part c.args.parts.now c.loop-part.part-index c.part-item.result
    c.args.names.now c.loop-part.names _ c.loop-part-test.true c.part-item.is c.loop-part.invariant
    c.in_ok-add_flat_part.ensures

pub exprs::add_flat_part-returns-in_ok-add_run-in-Run : goal.exprs::add_flat_part-returns-in_ok-add_run-in-Run
exprs::add_flat_part-returns-in_ok-add_run-in-Run t c =
    one_added _ c.in_ok-add_run-in-Run.ensures (ap (λ
    (x : FlatPart). atoms_of_flat_part x) c.in-Run.is ∙ gathers-Run _)

pub exprs::add_flat_part-returns-in_ok-add_run-in-Infix : goal.exprs::add_flat_part-returns-in_ok-add_run-in-Infix
exprs::add_flat_part-returns-in_ok-add_run-in-Infix t c =
    one_added _ c.in_ok-add_run-in-Infix.ensures (ap (λ
    (x : FlatPart). atoms_of_flat_part x) c.in-Infix.is ∙ gathers-Infix _ _
    ∙ operand_gathers c.in-Infix.operand)

pub exprs::add_run-returns : goal.exprs::add_run-returns
exprs::add_run-returns t c =
    two_added _ _ _ c.in_ok-add_atom.ensures (by (λ
    (l : List RunPart). all_atoms (map atoms_of_run_part l)) _ c.as_slice.ensures
    c.in_ok-add_run_parts.ensures) (run_gathers c.args.run.now)

pub exprs::add_run_parts-loop-part-preserved : goal.exprs::add_run_parts-loop-part-preserved
exprs::add_run_parts-loop-part-preserved t c =
    one_more_of atoms_of_run_part c.args.parts.now c.loop-part.part-index c.part-item.result
    c.args.names.now c.loop-part.names _ c.loop-part-test.true c.part-item.is c.loop-part.invariant
    c.in_ok-add_run_part.ensures

pub exprs::add_run_part-returns-in_ok-add_atom-in-Atom : goal.exprs::add_run_part-returns-in_ok-add_atom-in-Atom
exprs::add_run_part-returns-in_ok-add_atom-in-Atom t c =
    one_added _ c.in_ok-add_atom-in-Atom.ensures (ap (λ
    (x : RunPart). atoms_of_run_part x) c.in-Atom.is ∙ gathers-Atom _)

pub exprs::add_run_part-returns-in_ok-add_postfix-in-Postfix : goal.exprs::add_run_part-returns-in_ok-add_postfix-in-Postfix
exprs::add_run_part-returns-in_ok-add_postfix-in-Postfix t c =
    one_added _ c.in_ok-add_postfix-in-Postfix.ensures (ap (λ
    (x : RunPart). atoms_of_run_part x) c.in-Postfix.is ∙ gathers-Postfix _)

pub exprs::add_postfix-returns-in_ok-add_expr-in-Subscript : goal.exprs::add_postfix-returns-in_ok-add_expr-in-Subscript
exprs::add_postfix-returns-in_ok-add_expr-in-Subscript t c =
    one_added _ (by (λ
    (x : Expr). atoms_of_expr x) _ c.get.ensures c.in_ok-add_expr-in-Subscript.ensures) (ap (λ
    (x : Postfix). atoms_of_postfix x) c.in-Subscript.is ∙ gathers-Subscript _ _ _)

pub exprs::add_postfix-returns-in_ok-add_atom-in-Power : goal.exprs::add_postfix-returns-in_ok-add_atom-in-Power
exprs::add_postfix-returns-in_ok-add_atom-in-Power t c =
    one_added _ c.in_ok-add_atom-in-Power.ensures (ap (λ
    (x : Postfix). atoms_of_postfix x) c.in-Power.is ∙ gathers-Power _ _)

pub exprs::add_postfix-returns-in-Field : goal.exprs::add_postfix-returns-in-Field
exprs::add_postfix-returns-in-Field t c =
    nothing_added _ (ap (λ (x : Postfix). atoms_of_postfix x) c.in-Field.is ∙ gathers-Field _ _)

pub exprs::add_postfix-returns-in_ok-add_expr_list-in-Call : goal.exprs::add_postfix-returns-in_ok-add_expr_list-in-Call
exprs::add_postfix-returns-in_ok-add_expr_list-in-Call t c =
    one_added _ c.in_ok-add_expr_list-in-Call.ensures (ap (λ
    (x : Postfix). atoms_of_postfix x) c.in-Call.is ∙ gathers-Call _ _ _ _ _)

pub exprs::add_atom-returns-in_ok-push-in-Name : goal.exprs::add_atom-returns-in_ok-push-in-Name
exprs::add_atom-returns-in_ok-push-in-Name t c =
    one_added _ c.in_ok-push-in-Name.ensures.ok (ap (λ
    (x : Atom). atoms_of_atom x) c.in-Name.is ∙ gathers-Name _)

pub exprs::add_atom-returns-in-Number : goal.exprs::add_atom-returns-in-Number
exprs::add_atom-returns-in-Number t c =
    nothing_added _ (ap (λ (x : Atom). atoms_of_atom x) c.in-Number.is ∙ gathers-Number _ _)

pub exprs::add_atom-returns-in-Text : goal.exprs::add_atom-returns-in-Text
exprs::add_atom-returns-in-Text t c =
    nothing_added _ (ap (λ (x : Atom). atoms_of_atom x) c.in-Text.is ∙ gathers-Text _ _)

pub exprs::add_atom-returns-in-True : goal.exprs::add_atom-returns-in-True
exprs::add_atom-returns-in-True t c =
    nothing_added _ (ap (λ (x : Atom). atoms_of_atom x) c.in-True.is ∙ gathers-True _)

pub exprs::add_atom-returns-in-False : goal.exprs::add_atom-returns-in-False
exprs::add_atom-returns-in-False t c =
    nothing_added _ (ap (λ (x : Atom). atoms_of_atom x) c.in-False.is ∙ gathers-False _)

pub exprs::add_atom-returns-in-Self_ : goal.exprs::add_atom-returns-in-Self_
exprs::add_atom-returns-in-Self_ t c =
    nothing_added _ (ap (λ (x : Atom). atoms_of_atom x) c.in-Self_.is ∙ gathers-Self_ _)

pub exprs::add_atom-returns-in_ok-add_expr_list-in-Parens : goal.exprs::add_atom-returns-in_ok-add_expr_list-in-Parens
exprs::add_atom-returns-in_ok-add_expr_list-in-Parens t c =
    one_added _ c.in_ok-add_expr_list-in-Parens.ensures (ap (λ
    (x : Atom). atoms_of_atom x) c.in-Parens.is ∙ gathers-Parens _ _ _)

pub exprs::add_atom-returns-in_ok-add_form-in-Delimited : goal.exprs::add_atom-returns-in_ok-add_form-in-Delimited
exprs::add_atom-returns-in_ok-add_form-in-Delimited t c =
    one_added _ (by (λ
    (x : Delimited). atoms_of_delimited x) _ c.get.ensures
    c.in_ok-add_form-in-Delimited.ensures) (ap (λ
    (x : Atom). atoms_of_atom x) c.in-Delimited.is ∙ gathers-Delimited _)

pub exprs::add_atom-returns-in_ok-add_expr-in-ArrayFill-2 : goal.exprs::add_atom-returns-in_ok-add_expr-in-ArrayFill-2
exprs::add_atom-returns-in_ok-add_expr-in-ArrayFill-2 t c =
    two_added _ _ _ (by (λ
    (x : Expr). atoms_of_expr x) _ c.get-in-ArrayFill.ensures
    c.in_ok-add_expr-in-ArrayFill.ensures) (by (λ
    (x : Expr). atoms_of_expr x) _ c.get-in-ArrayFill-2.ensures
    c.in_ok-add_expr-in-ArrayFill-2.ensures) (ap (λ
    (x : Atom). atoms_of_atom x) c.in-ArrayFill.is ∙ gathers-ArrayFill _ _ _ _)

pub exprs::add_expr_list-returns-in_ok-add_next_exprs : goal.exprs::add_expr_list-returns-in_ok-add_next_exprs
exprs::add_expr_list-returns-in_ok-add_next_exprs t c =
    two_added _ _ _ (by (λ
    (x : Expr). atoms_of_expr x) _ c.get.ensures c.in_ok-add_expr.ensures) (by (λ
    (l : List NextExpr). all_atoms (map atoms_of_next_expr l)) _ c.as_slice.ensures
    c.in_ok-add_next_exprs.ensures) (ap (λ
    (o : Option ExprList). maybe_atoms (option_map atoms_of_expr_list o)) c.in-Some.is
    ∙ expr_list_gathers c.in-Some.list)

pub exprs::add_next_exprs-loop-next-preserved : goal.exprs::add_next_exprs-loop-next-preserved
exprs::add_next_exprs-loop-next-preserved t c =
    one_more_of atoms_of_next_expr c.args.exprs.now c.loop-next.next-index c.next-item.result
    c.args.names.now c.loop-next.names _ c.loop-next-test.true c.next-item.is c.loop-next.invariant
    (one_added _ c.in_ok-add_expr.ensures (next_expr_gathers c.next-item.result))

pub blocks::add_form-returns-in_ok-add_alsos-in-Do : goal.blocks::add_form-returns-in_ok-add_alsos-in-Do
blocks::add_form-returns-in_ok-add_alsos-in-Do t c =
    two_added _ _ _ (by (λ
    (l : List BlockItem). all_atoms (map atoms_of_block_item l)) _ c.as_slice.ensures
    c.in_ok-add_block-in-Do.ensures) (by (λ
    (l : List Also). all_atoms (map atoms_of_also l)) _ c.as_slice-in-Do.ensures
    c.in_ok-add_alsos-in-Do.ensures) (ap (λ
    (x : Delimited). atoms_of_delimited x) c.in-Do.is ∙ gathers-Do _ _ _ _)

pub blocks::add_form-returns-in_ok-add_else_block-in-If : goal.blocks::add_form-returns-in_ok-add_else_block-in-If
blocks::add_form-returns-in_ok-add_else_block-in-If t c =
    four_added _ _ _ _ _ c.in_ok-add_flat-in-If.ensures (by (λ
    (l : List BlockItem). all_atoms (map atoms_of_block_item l)) _ c.as_slice-in-If.ensures
    c.in_ok-add_block-in-If.ensures) (by (λ
    (l : List Elif). all_atoms (map atoms_of_elif l)) _ c.as_slice-in-If-2.ensures
    c.in_ok-add_elifs-in-If.ensures) c.in_ok-add_else_block-in-If.ensures (ap (λ
    (x : Delimited). atoms_of_delimited x) c.in-If.is ∙ gathers-If _ _ _ _ _ _ _)

pub blocks::add_form-returns-in_ok-add_block-in-While : goal.blocks::add_form-returns-in_ok-add_block-in-While
blocks::add_form-returns-in_ok-add_block-in-While t c =
    two_added _ _ _ c.in_ok-add_flat-in-While.ensures (by (λ
    (l : List BlockItem). all_atoms (map atoms_of_block_item l)) _
    c.as_slice-in-While.ensures c.in_ok-add_block-in-While.ensures) (ap (λ
    (x : Delimited). atoms_of_delimited x) c.in-While.is ∙ gathers-While _ _ _ _ _)

pub blocks::add_form-returns-in_ok-add_block-in-For : goal.blocks::add_form-returns-in_ok-add_block-in-For
blocks::add_form-returns-in_ok-add_block-in-For t c =
    three_added _ _ _ _ (by (λ
    (x : Generator). atoms_of_generator x) _ c.get.ensures
    c.in_ok-add_generator-in-For.ensures) (by (λ
    (l : List NextGenerator). all_atoms (map atoms_of_next_generator l)) _
    c.as_slice-in-For.ensures c.in_ok-add_next_generators-in-For.ensures) (by (λ
    (l : List BlockItem). all_atoms (map atoms_of_block_item l)) _
    c.as_slice-in-For-2.ensures c.in_ok-add_block-in-For.ensures) (ap (λ
    (x : Delimited). atoms_of_delimited x) c.in-For.is ∙ gathers-For _ _ _ _ _ _)

pub blocks::add_form-returns-in_ok-add_else_clause-in-Case : goal.blocks::add_form-returns-in_ok-add_else_clause-in-Case
blocks::add_form-returns-in_ok-add_else_clause-in-Case t c =
    three_added _ _ _ _ c.in_ok-add_flat-in-Case.ensures (by (λ
    (l : List CaseClause). all_atoms (map atoms_of_case_clause l)) _
    c.as_slice-in-Case.ensures c.in_ok-add_case_clauses-in-Case.ensures)
    c.in_ok-add_else_clause-in-Case.ensures (ap (λ
    (x : Delimited). atoms_of_delimited x) c.in-Case.is ∙ gathers-Case _ _ _ _ _ _)

pub blocks::add_form-returns-in_ok-add_else_clause-in-Typecase : goal.blocks::add_form-returns-in_ok-add_else_clause-in-Typecase
blocks::add_form-returns-in_ok-add_else_clause-in-Typecase t c =
    three_added _ _ _ _ c.in_ok-add_flat-in-Typecase.ensures (by (λ
    (l : List TypeClause). all_atoms (map atoms_of_type_clause l)) _
    c.as_slice-in-Typecase.ensures c.in_ok-add_type_clauses-in-Typecase.ensures)
    c.in_ok-add_else_clause-in-Typecase.ensures (ap (λ
    (x : Delimited). atoms_of_delimited x) c.in-Typecase.is
    ∙ gathers-Typecase _ _ _ _ _ _ _ _)

pub blocks::add_form-returns-in_ok-add_finally-in-Try : goal.blocks::add_form-returns-in_ok-add_finally-in-Try
blocks::add_form-returns-in_ok-add_finally-in-Try t c =
    three_added _ _ _ _ (by (λ
    (l : List BlockItem). all_atoms (map atoms_of_block_item l)) _
    c.as_slice-in-Try.ensures c.in_ok-add_block-in-Try.ensures) c.in_ok-add_catch-in-Try.ensures
    c.in_ok-add_finally-in-Try.ensures (ap (λ
    (x : Delimited). atoms_of_delimited x) c.in-Try.is ∙ gathers-Try _ _ _ _ _)

pub blocks::add_block-loop-entry-preserved : goal.blocks::add_block-loop-entry-preserved
blocks::add_block-loop-entry-preserved t c =
    one_more_of atoms_of_block_item c.args.block.now c.loop-entry.entry-index c.entry-item.result
    c.args.names.now c.loop-entry.names _ c.loop-entry-test.true c.entry-item.is
    c.loop-entry.invariant
    (one_added _ c.in_ok-add_item.ensures (block_item_gathers c.entry-item.result))

pub blocks::add_item-returns-in_ok-add_expr-in-Variable : goal.blocks::add_item-returns-in_ok-add_expr-in-Variable
blocks::add_item-returns-in_ok-add_expr-in-Variable t c =
    one_added _ (by (λ
    (x : Variable). atoms_of_expr (out-Variable x).value) _ c.get.ensures
    c.in_ok-add_expr-in-Variable.ensures) (ap (λ
    (x : Item). atoms_of_item x) c.in-Variable.is ∙ gathers-Variable _
    ∙ variable_gathers c.in-Variable.variable)

pub blocks::add_item-returns-in_ok-add_expr-in-Names : goal.blocks::add_item-returns-in_ok-add_expr-in-Names
blocks::add_item-returns-in_ok-add_expr-in-Names t c =
    one_added _ (by (λ
    (x : Expr). atoms_of_expr x) _ c.get-in-Names.ensures c.in_ok-add_expr-in-Names.ensures)
    (ap (λ (x : Item). atoms_of_item x) c.in-Names.is ∙ gathers-Names _ _ _ _ _ _ _ _)

pub blocks::add_item-returns-in_ok-add_expr-in-Expr : goal.blocks::add_item-returns-in_ok-add_expr-in-Expr
blocks::add_item-returns-in_ok-add_expr-in-Expr t c =
    one_added _ c.in_ok-add_expr-in-Expr.ensures (ap (λ
    (x : Item). atoms_of_item x) c.in-Expr.is ∙ gathers-Expr _)

pub blocks::add_alsos-loop-also-preserved : goal.blocks::add_alsos-loop-also-preserved
blocks::add_alsos-loop-also-preserved t c =
    one_more_of atoms_of_also c.args.others.now c.loop-also.also-index c.also-item.result
    c.args.names.now c.loop-also.names _ c.loop-also-test.true c.also-item.is c.loop-also.invariant
    (one_added _ (by (λ
    (l : List BlockItem). all_atoms (map atoms_of_block_item l)) _ c.as_slice.ensures
    c.in_ok-add_block.ensures) (also_gathers c.also-item.result))

pub blocks::add_elifs-loop-elif-preserved : goal.blocks::add_elifs-loop-elif-preserved
blocks::add_elifs-loop-elif-preserved t c =
    one_more_of atoms_of_elif c.args.elifs.now c.loop-elif.elif-index c.elif-item.result
    c.args.names.now c.loop-elif.names _ c.loop-elif-test.true c.elif-item.is c.loop-elif.invariant
    (two_added _ _ _ c.in_ok-add_flat.ensures (by (λ
    (l : List BlockItem). all_atoms (map atoms_of_block_item l)) _ c.as_slice.ensures
    c.in_ok-add_block.ensures) (elif_gathers c.elif-item.result))

pub blocks::add_else_block-returns-in_ok-add_block : goal.blocks::add_else_block-returns-in_ok-add_block
blocks::add_else_block-returns-in_ok-add_block t c =
    one_added _ (by (λ
    (l : List BlockItem). all_atoms (map atoms_of_block_item l)) _ c.as_slice.ensures
    c.in_ok-add_block.ensures) (ap (λ
    (o : Option ElseBlock). maybe_atoms (option_map atoms_of_else_block o)) c.in-Some.is
    ∙ else_block_gathers c.in-Some.otherwise)

pub blocks::add_next_generators-loop-next-preserved : goal.blocks::add_next_generators-loop-next-preserved
blocks::add_next_generators-loop-next-preserved t c =
    one_more_of atoms_of_next_generator c.args.others.now c.loop-next.next-index c.next-item.result
    c.args.names.now c.loop-next.names _ c.loop-next-test.true c.next-item.is c.loop-next.invariant
    (one_added _ c.in_ok-add_generator.ensures (next_generator_gathers c.next-item.result))

pub blocks::add_case_clauses-loop-clause-preserved : goal.blocks::add_case_clauses-loop-clause-preserved
blocks::add_case_clauses-loop-clause-preserved t c =
    one_more_of atoms_of_case_clause c.args.clauses.now c.loop-clause.clause-index
    c.clause-item.result c.args.names.now c.loop-clause.names _ c.loop-clause-test.true
    c.clause-item.is c.loop-clause.invariant
    (two_added _ _ _ c.in_ok-add_flat.ensures c.in_ok-add_expr.ensures
    (case_clause_gathers c.clause-item.result))

pub blocks::add_type_clauses-loop-clause-preserved : goal.blocks::add_type_clauses-loop-clause-preserved
blocks::add_type_clauses-loop-clause-preserved t c =
    one_more_of atoms_of_type_clause c.args.clauses.now c.loop-clause.clause-index
    c.clause-item.result c.args.names.now c.loop-clause.names _ c.loop-clause-test.true
    c.clause-item.is c.loop-clause.invariant
    (one_added _ c.in_ok-add_expr.ensures (type_clause_gathers c.clause-item.result))

pub blocks::add_else_clause-returns-in_ok-add_expr : goal.blocks::add_else_clause-returns-in_ok-add_expr
blocks::add_else_clause-returns-in_ok-add_expr t c =
    one_added _ (by (λ
    (x : ElseClause). atoms_of_expr (out-ElseClause x).value) _ c.get.ensures
    c.in_ok-add_expr.ensures) (ap (λ
    (o : Option ElseClause). maybe_atoms (option_map atoms_of_else_clause o)) c.in-Some.is
    ∙ else_clause_gathers c.in-Some.otherwise)

pub blocks::add_catch-returns-in_ok-add_type_clauses : goal.blocks::add_catch-returns-in_ok-add_type_clauses
blocks::add_catch-returns-in_ok-add_type_clauses t c =
    one_added _ (by (λ
    (l : List TypeClause). all_atoms (map atoms_of_type_clause l)) _ c.as_slice.ensures
    c.in_ok-add_type_clauses.ensures) (ap (λ
    (o : Option Catch). maybe_atoms (option_map atoms_of_catch o)) c.in-Some.is
    ∙ catch_gathers c.in-Some.catch)

pub blocks::add_finally-returns-in_ok-add_block : goal.blocks::add_finally-returns-in_ok-add_block
blocks::add_finally-returns-in_ok-add_block t c =
    one_added _ (by (λ
    (l : List BlockItem). all_atoms (map atoms_of_block_item l)) _ c.as_slice.ensures
    c.in_ok-add_block.ensures) (ap (λ
    (o : Option Finally). maybe_atoms (option_map atoms_of_finally o)) c.in-Some.is
    ∙ finally_gathers c.in-Some.finally)
