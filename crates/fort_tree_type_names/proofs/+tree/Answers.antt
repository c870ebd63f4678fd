use Rattle.std.proofs.Common.{List, Option, ap, ◌∙◌}
use Rattle.std.specs.Prelude.{map, option_map}
use Rattle.fort_tree.specs.declared.delimited.Delimited.{Delimited}
use Rattle.fort_tree.specs.declared.delimited.Item.{Item}
use Rattle.fort_tree.specs.declared.delimited.Also.{Also}
use Rattle.fort_tree.specs.declared.delimited.Elif.{Elif}
use Rattle.fort_tree.specs.declared.delimited.ElseBlock.{ElseBlock}
use Rattle.fort_tree.specs.declared.delimited.Finally.{Finally}
use Rattle.fort_tree.specs.declared.delimited.NextGenerator.{NextGenerator}
use Rattle.fort_tree.specs.declared.delimited.CaseClause.{CaseClause}
use Rattle.fort_tree.specs.declared.delimited.TypeClause.{TypeClause}
use Rattle.fort_tree.specs.declared.delimited.ElseClause.{ElseClause, out-ElseClause}
use Rattle.fort_tree.specs.declared.declarations.Variable.{Variable}
use Rattle.fort_tree.specs.declared.delimited.Catch.{Catch}
use Rattle.fort_tree.specs.declared.delimited.BlockItem.{BlockItem}
use Rattle.fort_tree.specs.declared.expr.Expr.{Expr}
use Rattle.fort_tree.specs.declared.expr.ExprList.{ExprList}
use Rattle.fort_tree.specs.declared.expr.Head.{Head}
use Rattle.fort_tree.specs.declared.expr.Generator.{Generator}
use Rattle.fort_tree.specs.declared.expr.Flat.{Flat}
use Rattle.fort_tree.specs.declared.expr.FlatPart.{FlatPart}
use Rattle.fort_tree.specs.declared.expr.RunPart.{RunPart}
use Rattle.fort_tree.specs.declared.expr.Postfix.{Postfix}
use Rattle.fort_tree.specs.declared.expr.Atom.{Atom}
use Rattle.fort_tree.specs.declared.expr.NextExpr.{NextExpr}
use Rattle.fort_tree.specs.declared.types.TypeTree.{TypeTree}
use Rattle.fort_tree_type_names.specs.Mentioned.{all_mentioned, maybe_mentioned}
use Rattle.fort_tree_type_names.specs.Mentions.{mentioned_type}
use Rattle.fort_tree_type_names.specs.Mentioning.{mentioned_also, mentioned_atom, mentioned_block_item, mentioned_case_clause, mentioned_catch, mentioned_delimited, mentioned_elif, mentioned_else_block, mentioned_else_clause, mentioned_expr, mentioned_expr_list, mentioned_finally, mentioned_flat, mentioned_flat_part, mentioned_generator, mentioned_head, mentioned_item, mentioned_next_expr, mentioned_next_generator, mentioned_postfix, mentioned_run_part, mentioned_type_clause, mentioned_variable}
use Rattle.fort_tree_type_names.proofs.Steps.{by, nothing_added, one_added, two_added, three_added, four_added, one_more_of}
use Rattle.fort_tree_type_names.proofs.MentionsFlats.{mentions-ArrayFill, mentions-Assign, mentions-Atom, mentions-Atomic, mentions-Big, mentions-Call, mentions-Delimited, mentions-False, mentions-Field, mentions-Flat, mentions-Fn, mentions-Infix, mentions-Name, mentions-Number, mentions-Open, mentions-OpenAssign, mentions-Parallel, mentions-Parens, mentions-Postfix, mentions-Power, mentions-Run, mentions-Self_, mentions-Sequential, mentions-Subscript, mentions-Text, mentions-Throw, mentions-Spawn, mentions-True, mentions-Tryatomic, expr_list_mentions, flat_mentions, next_expr_mentions, operand_mentions, run_mentions}
use Rattle.fort_tree_type_names.proofs.MentionsBlocks.{mentions-Case, mentions-Do, mentions-Expr, mentions-For, mentions-If, mentions-Names, mentions-Try, mentions-Typecase, mentions-Variable, mentions-While, also_mentions, block_item_mentions, case_clause_mentions, catch_mentions, elif_mentions, else_block_mentions, else_clause_mentions, finally_mentions, next_generator_mentions, type_clause_mentions, variable_mentions}
use Rattle.fort_tree_type_names.proofs.+tree.Goals as goal

pub exprs::add_expr-returns-in_ok-add_flat-in-Flat : goal.exprs::add_expr-returns-in_ok-add_flat-in-Flat
exprs::add_expr-returns-in_ok-add_flat-in-Flat t c =
    one_added _ c.in_ok-add_flat-in-Flat.ensures (ap (λ
    (x : Expr). mentioned_expr x) c.in-Flat.is ∙ mentions-Flat _)

pub exprs::add_expr-returns-in_ok-add_flat-in-Assign-2 : goal.exprs::add_expr-returns-in_ok-add_flat-in-Assign-2
exprs::add_expr-returns-in_ok-add_flat-in-Assign-2 t c =
    three_added _ _ _ _ (by (λ
    (x : Flat). mentioned_flat x) _ c.get.ensures c.in_ok-add_flat-in-Assign.ensures)
    c.in_ok-add_maybe_head-in-Assign.ensures (by (λ
    (x : Flat). mentioned_flat x) _ c.get-in-Assign.ensures
    c.in_ok-add_flat-in-Assign-2.ensures) (ap (λ
    (x : Expr). mentioned_expr x) c.in-Assign.is ∙ mentions-Assign _ _ _ _)

pub exprs::add_expr-returns-in_ok-add_flat-in-Open : goal.exprs::add_expr-returns-in_ok-add_flat-in-Open
exprs::add_expr-returns-in_ok-add_flat-in-Open t c =
    two_added _ _ _ (by (λ
    (x : Head). mentioned_head x) _ c.get-in-Open.ensures c.in_ok-add_head-in-Open.ensures)
    (by (λ (x : Flat). mentioned_flat x) _ c.get-in-Open-2.ensures c.in_ok-add_flat-in-Open.ensures)
    (ap (λ (x : Expr). mentioned_expr x) c.in-Open.is ∙ mentions-Open _ _)

pub exprs::add_expr-returns-in_ok-add_flat-in-OpenAssign-2 : goal.exprs::add_expr-returns-in_ok-add_flat-in-OpenAssign-2
exprs::add_expr-returns-in_ok-add_flat-in-OpenAssign-2 t c =
    three_added _ _ _ _ (by (λ
    (x : Head). mentioned_head x) _ c.get-in-OpenAssign.ensures
    c.in_ok-add_head-in-OpenAssign.ensures) (by (λ
    (x : Flat). mentioned_flat x) _ c.get-in-OpenAssign-2.ensures
    c.in_ok-add_flat-in-OpenAssign.ensures) (by (λ
    (x : Flat). mentioned_flat x) _ c.get-in-OpenAssign-3.ensures
    c.in_ok-add_flat-in-OpenAssign-2.ensures) (ap (λ
    (x : Expr). mentioned_expr x) c.in-OpenAssign.is ∙ mentions-OpenAssign _ _ _ _)

pub exprs::add_maybe_head-returns-in_ok-add_head : goal.exprs::add_maybe_head-returns-in_ok-add_head
exprs::add_maybe_head-returns-in_ok-add_head t c =
    one_added _ (by (λ
    (x : Head). mentioned_head x) _ c.get.ensures c.in_ok-add_head.ensures) (ap (λ
    (o : Option Head). maybe_mentioned (option_map mentioned_head o)) c.in-Some.is)

pub exprs::add_head-returns-in-Atomic : goal.exprs::add_head-returns-in-Atomic
exprs::add_head-returns-in-Atomic t c =
    nothing_added _ (ap (λ (x : Head). mentioned_head x) c.in-Atomic.is ∙ mentions-Atomic _)

pub exprs::add_head-returns-in-Tryatomic : goal.exprs::add_head-returns-in-Tryatomic
exprs::add_head-returns-in-Tryatomic t c =
    nothing_added _ (ap (λ (x : Head). mentioned_head x) c.in-Tryatomic.is ∙ mentions-Tryatomic _)

pub exprs::add_head-returns-in-Throw : goal.exprs::add_head-returns-in-Throw
exprs::add_head-returns-in-Throw t c =
    nothing_added _ (ap (λ (x : Head). mentioned_head x) c.in-Throw.is ∙ mentions-Throw _)

pub exprs::add_head-returns-in-Spawn : goal.exprs::add_head-returns-in-Spawn
exprs::add_head-returns-in-Spawn t c =
    nothing_added _ (ap (λ (x : Head). mentioned_head x) c.in-Spawn.is ∙ mentions-Spawn _)

pub exprs::add_head-returns-in_ok-add_parameters-in-Fn : goal.exprs::add_head-returns-in_ok-add_parameters-in-Fn
exprs::add_head-returns-in_ok-add_parameters-in-Fn t c =
    one_added _ c.in_ok-add_parameters-in-Fn.ensures (ap (λ
    (x : Head). mentioned_head x) c.in-Fn.is ∙ mentions-Fn _ _ _ _ _)

pub exprs::add_head-returns-in_ok-add_generator-in-Big : goal.exprs::add_head-returns-in_ok-add_generator-in-Big
exprs::add_head-returns-in_ok-add_generator-in-Big t c =
    one_added _ c.in_ok-add_generator-in-Big.ensures (ap (λ
    (x : Head). mentioned_head x) c.in-Big.is ∙ mentions-Big _ _ _ _)

pub exprs::add_generator-returns-in_ok-add_flat-in-Parallel : goal.exprs::add_generator-returns-in_ok-add_flat-in-Parallel
exprs::add_generator-returns-in_ok-add_flat-in-Parallel t c =
    one_added _ c.in_ok-add_flat-in-Parallel.ensures (ap (λ
    (x : Generator). mentioned_generator x) c.in-Parallel.is ∙ mentions-Parallel _ _ _)

pub exprs::add_generator-returns-in_ok-add_flat-in-Sequential : goal.exprs::add_generator-returns-in_ok-add_flat-in-Sequential
exprs::add_generator-returns-in_ok-add_flat-in-Sequential t c =
    one_added _ c.in_ok-add_flat-in-Sequential.ensures (ap (λ
    (x : Generator). mentioned_generator x) c.in-Sequential.is
    ∙ mentions-Sequential _ _ _ _ _ _)

pub exprs::add_flat-returns : goal.exprs::add_flat-returns
exprs::add_flat-returns t c =
    two_added _ _ _ c.in_ok-add_operand.ensures (by (λ
    (l : List FlatPart). all_mentioned (map mentioned_flat_part l)) _ c.as_slice.ensures
    c.in_ok-add_flat_parts.ensures) (flat_mentions c.args.flat.now)

pub exprs::add_flat_parts-loop-part-preserved : goal.exprs::add_flat_parts-loop-part-preserved
exprs::add_flat_parts-loop-part-preserved t c =
    one_more_of mentioned_flat_part c.args.parts.now c.loop-part.part-index c.part-item.result
    c.args.names.now c.loop-part.names _ c.loop-part-test.true c.part-item.is c.loop-part.invariant
    c.in_ok-add_flat_part.ensures

pub exprs::add_flat_part-returns-in_ok-add_run-in-Run : goal.exprs::add_flat_part-returns-in_ok-add_run-in-Run
exprs::add_flat_part-returns-in_ok-add_run-in-Run t c =
    one_added _ c.in_ok-add_run-in-Run.ensures (ap (λ
    (x : FlatPart). mentioned_flat_part x) c.in-Run.is ∙ mentions-Run _)

pub exprs::add_flat_part-returns-in_ok-add_operand-in-Infix : goal.exprs::add_flat_part-returns-in_ok-add_operand-in-Infix
exprs::add_flat_part-returns-in_ok-add_operand-in-Infix t c =
    one_added _ c.in_ok-add_operand-in-Infix.ensures (ap (λ
    (x : FlatPart). mentioned_flat_part x) c.in-Infix.is ∙ mentions-Infix _ _)

pub exprs::add_operand-returns : goal.exprs::add_operand-returns
exprs::add_operand-returns t c =
    one_added _ c.in_ok-add_run.ensures (operand_mentions c.args.operand.now)

pub exprs::add_run-returns : goal.exprs::add_run-returns
exprs::add_run-returns t c =
    two_added _ _ _ c.in_ok-add_atom.ensures (by (λ
    (l : List RunPart). all_mentioned (map mentioned_run_part l)) _ c.as_slice.ensures
    c.in_ok-add_run_parts.ensures) (run_mentions c.args.run.now)

pub exprs::add_run_parts-loop-part-preserved : goal.exprs::add_run_parts-loop-part-preserved
exprs::add_run_parts-loop-part-preserved t c =
    one_more_of mentioned_run_part c.args.parts.now c.loop-part.part-index c.part-item.result
    c.args.names.now c.loop-part.names _ c.loop-part-test.true c.part-item.is c.loop-part.invariant
    c.in_ok-add_run_part.ensures

pub exprs::add_run_part-returns-in_ok-add_atom-in-Atom : goal.exprs::add_run_part-returns-in_ok-add_atom-in-Atom
exprs::add_run_part-returns-in_ok-add_atom-in-Atom t c =
    one_added _ c.in_ok-add_atom-in-Atom.ensures (ap (λ
    (x : RunPart). mentioned_run_part x) c.in-Atom.is ∙ mentions-Atom _)

pub exprs::add_run_part-returns-in_ok-add_postfix-in-Postfix : goal.exprs::add_run_part-returns-in_ok-add_postfix-in-Postfix
exprs::add_run_part-returns-in_ok-add_postfix-in-Postfix t c =
    one_added _ c.in_ok-add_postfix-in-Postfix.ensures (ap (λ
    (x : RunPart). mentioned_run_part x) c.in-Postfix.is ∙ mentions-Postfix _)

pub exprs::add_postfix-returns-in_ok-add_expr-in-Subscript : goal.exprs::add_postfix-returns-in_ok-add_expr-in-Subscript
exprs::add_postfix-returns-in_ok-add_expr-in-Subscript t c =
    one_added _ (by (λ
    (x : Expr). mentioned_expr x) _ c.get.ensures c.in_ok-add_expr-in-Subscript.ensures) (ap (λ
    (x : Postfix). mentioned_postfix x) c.in-Subscript.is ∙ mentions-Subscript _ _ _)

pub exprs::add_postfix-returns-in_ok-add_atom-in-Power : goal.exprs::add_postfix-returns-in_ok-add_atom-in-Power
exprs::add_postfix-returns-in_ok-add_atom-in-Power t c =
    one_added _ c.in_ok-add_atom-in-Power.ensures (ap (λ
    (x : Postfix). mentioned_postfix x) c.in-Power.is ∙ mentions-Power _ _)

pub exprs::add_postfix-returns-in-Field : goal.exprs::add_postfix-returns-in-Field
exprs::add_postfix-returns-in-Field t c =
    nothing_added _ (ap (λ (x : Postfix). mentioned_postfix x) c.in-Field.is ∙ mentions-Field _ _)

pub exprs::add_postfix-returns-in_ok-add_expr_list-in-Call : goal.exprs::add_postfix-returns-in_ok-add_expr_list-in-Call
exprs::add_postfix-returns-in_ok-add_expr_list-in-Call t c =
    one_added _ c.in_ok-add_expr_list-in-Call.ensures (ap (λ
    (x : Postfix). mentioned_postfix x) c.in-Call.is ∙ mentions-Call _ _ _ _ _)

pub exprs::add_atom-returns-in-Name : goal.exprs::add_atom-returns-in-Name
exprs::add_atom-returns-in-Name t c =
    nothing_added _ (ap (λ (x : Atom). mentioned_atom x) c.in-Name.is ∙ mentions-Name _)

pub exprs::add_atom-returns-in-Number : goal.exprs::add_atom-returns-in-Number
exprs::add_atom-returns-in-Number t c =
    nothing_added _ (ap (λ (x : Atom). mentioned_atom x) c.in-Number.is ∙ mentions-Number _ _)

pub exprs::add_atom-returns-in-Text : goal.exprs::add_atom-returns-in-Text
exprs::add_atom-returns-in-Text t c =
    nothing_added _ (ap (λ (x : Atom). mentioned_atom x) c.in-Text.is ∙ mentions-Text _ _)

pub exprs::add_atom-returns-in-True : goal.exprs::add_atom-returns-in-True
exprs::add_atom-returns-in-True t c =
    nothing_added _ (ap (λ (x : Atom). mentioned_atom x) c.in-True.is ∙ mentions-True _)

pub exprs::add_atom-returns-in-False : goal.exprs::add_atom-returns-in-False
exprs::add_atom-returns-in-False t c =
    nothing_added _ (ap (λ (x : Atom). mentioned_atom x) c.in-False.is ∙ mentions-False _)

pub exprs::add_atom-returns-in-Self_ : goal.exprs::add_atom-returns-in-Self_
exprs::add_atom-returns-in-Self_ t c =
    nothing_added _ (ap (λ (x : Atom). mentioned_atom x) c.in-Self_.is ∙ mentions-Self_ _)

pub exprs::add_atom-returns-in_ok-add_expr_list-in-Parens : goal.exprs::add_atom-returns-in_ok-add_expr_list-in-Parens
exprs::add_atom-returns-in_ok-add_expr_list-in-Parens t c =
    one_added _ c.in_ok-add_expr_list-in-Parens.ensures (ap (λ
    (x : Atom). mentioned_atom x) c.in-Parens.is ∙ mentions-Parens _ _ _)

pub exprs::add_atom-returns-in_ok-add_form-in-Delimited : goal.exprs::add_atom-returns-in_ok-add_form-in-Delimited
exprs::add_atom-returns-in_ok-add_form-in-Delimited t c =
    one_added _ (by (λ
    (x : Delimited). mentioned_delimited x) _ c.get.ensures
    c.in_ok-add_form-in-Delimited.ensures) (ap (λ
    (x : Atom). mentioned_atom x) c.in-Delimited.is ∙ mentions-Delimited _)

pub exprs::add_atom-returns-in_ok-add_expr-in-ArrayFill-2 : goal.exprs::add_atom-returns-in_ok-add_expr-in-ArrayFill-2
exprs::add_atom-returns-in_ok-add_expr-in-ArrayFill-2 t c =
    three_added _ _ _ _ (by (λ
    (x : TypeTree). mentioned_type x) _ c.get-in-ArrayFill.ensures
    c.in_ok-add_type-in-ArrayFill.ensures) (by (λ
    (x : Expr). mentioned_expr x) _ c.get-in-ArrayFill-2.ensures
    c.in_ok-add_expr-in-ArrayFill.ensures) (by (λ
    (x : Expr). mentioned_expr x) _ c.get-in-ArrayFill-3.ensures
    c.in_ok-add_expr-in-ArrayFill-2.ensures) (ap (λ
    (x : Atom). mentioned_atom x) c.in-ArrayFill.is ∙ mentions-ArrayFill _ _ _ _)

pub exprs::add_expr_list-returns-in_ok-add_next_exprs : goal.exprs::add_expr_list-returns-in_ok-add_next_exprs
exprs::add_expr_list-returns-in_ok-add_next_exprs t c =
    two_added _ _ _ (by (λ
    (x : Expr). mentioned_expr x) _ c.get.ensures c.in_ok-add_expr.ensures) (by (λ
    (l : List NextExpr). all_mentioned (map mentioned_next_expr l)) _ c.as_slice.ensures
    c.in_ok-add_next_exprs.ensures) (ap (λ
    (o : Option ExprList). maybe_mentioned (option_map mentioned_expr_list o)) c.in-Some.is
    ∙ expr_list_mentions c.in-Some.list)

pub exprs::add_next_exprs-loop-next-preserved : goal.exprs::add_next_exprs-loop-next-preserved
exprs::add_next_exprs-loop-next-preserved t c =
    one_more_of mentioned_next_expr c.args.exprs.now c.loop-next.next-index c.next-item.result
    c.args.names.now c.loop-next.names _ c.loop-next-test.true c.next-item.is c.loop-next.invariant
    (one_added _ c.in_ok-add_expr.ensures (next_expr_mentions c.next-item.result))

pub blocks::add_form-returns-in_ok-add_alsos-in-Do : goal.blocks::add_form-returns-in_ok-add_alsos-in-Do
blocks::add_form-returns-in_ok-add_alsos-in-Do t c =
    two_added _ _ _ (by (λ
    (l : List BlockItem). all_mentioned (map mentioned_block_item l)) _ c.as_slice.ensures
    c.in_ok-add_block-in-Do.ensures) (by (λ
    (l : List Also). all_mentioned (map mentioned_also l)) _ c.as_slice-in-Do.ensures
    c.in_ok-add_alsos-in-Do.ensures) (ap (λ
    (x : Delimited). mentioned_delimited x) c.in-Do.is ∙ mentions-Do _ _ _ _)

pub blocks::add_form-returns-in_ok-add_else_block-in-If : goal.blocks::add_form-returns-in_ok-add_else_block-in-If
blocks::add_form-returns-in_ok-add_else_block-in-If t c =
    four_added _ _ _ _ _ c.in_ok-add_flat-in-If.ensures (by (λ
    (l : List BlockItem). all_mentioned (map mentioned_block_item l)) _ c.as_slice-in-If.ensures
    c.in_ok-add_block-in-If.ensures) (by (λ
    (l : List Elif). all_mentioned (map mentioned_elif l)) _ c.as_slice-in-If-2.ensures
    c.in_ok-add_elifs-in-If.ensures) c.in_ok-add_else_block-in-If.ensures (ap (λ
    (x : Delimited). mentioned_delimited x) c.in-If.is ∙ mentions-If _ _ _ _ _ _ _)

pub blocks::add_form-returns-in_ok-add_block-in-While : goal.blocks::add_form-returns-in_ok-add_block-in-While
blocks::add_form-returns-in_ok-add_block-in-While t c =
    two_added _ _ _ c.in_ok-add_flat-in-While.ensures (by (λ
    (l : List BlockItem). all_mentioned (map mentioned_block_item l)) _
    c.as_slice-in-While.ensures c.in_ok-add_block-in-While.ensures) (ap (λ
    (x : Delimited). mentioned_delimited x) c.in-While.is ∙ mentions-While _ _ _ _ _)

pub blocks::add_form-returns-in_ok-add_block-in-For : goal.blocks::add_form-returns-in_ok-add_block-in-For
blocks::add_form-returns-in_ok-add_block-in-For t c =
    three_added _ _ _ _ (by (λ
    (x : Generator). mentioned_generator x) _ c.get.ensures
    c.in_ok-add_generator-in-For.ensures) (by (λ
    (l : List NextGenerator). all_mentioned (map mentioned_next_generator l)) _
    c.as_slice-in-For.ensures c.in_ok-add_next_generators-in-For.ensures) (by (λ
    (l : List BlockItem). all_mentioned (map mentioned_block_item l)) _
    c.as_slice-in-For-2.ensures c.in_ok-add_block-in-For.ensures) (ap (λ
    (x : Delimited). mentioned_delimited x) c.in-For.is ∙ mentions-For _ _ _ _ _ _)

pub blocks::add_form-returns-in_ok-add_else_clause-in-Case : goal.blocks::add_form-returns-in_ok-add_else_clause-in-Case
blocks::add_form-returns-in_ok-add_else_clause-in-Case t c =
    three_added _ _ _ _ c.in_ok-add_flat-in-Case.ensures (by (λ
    (l : List CaseClause). all_mentioned (map mentioned_case_clause l)) _
    c.as_slice-in-Case.ensures c.in_ok-add_case_clauses-in-Case.ensures)
    c.in_ok-add_else_clause-in-Case.ensures (ap (λ
    (x : Delimited). mentioned_delimited x) c.in-Case.is ∙ mentions-Case _ _ _ _ _ _)

pub blocks::add_form-returns-in_ok-add_else_clause-in-Typecase : goal.blocks::add_form-returns-in_ok-add_else_clause-in-Typecase
blocks::add_form-returns-in_ok-add_else_clause-in-Typecase t c =
    three_added _ _ _ _ c.in_ok-add_flat-in-Typecase.ensures (by (λ
    (l : List TypeClause). all_mentioned (map mentioned_type_clause l)) _
    c.as_slice-in-Typecase.ensures c.in_ok-add_type_clauses-in-Typecase.ensures)
    c.in_ok-add_else_clause-in-Typecase.ensures (ap (λ
    (x : Delimited). mentioned_delimited x) c.in-Typecase.is
    ∙ mentions-Typecase _ _ _ _ _ _ _ _)

pub blocks::add_form-returns-in_ok-add_finally-in-Try : goal.blocks::add_form-returns-in_ok-add_finally-in-Try
blocks::add_form-returns-in_ok-add_finally-in-Try t c =
    three_added _ _ _ _ (by (λ
    (l : List BlockItem). all_mentioned (map mentioned_block_item l)) _
    c.as_slice-in-Try.ensures c.in_ok-add_block-in-Try.ensures) c.in_ok-add_catch-in-Try.ensures
    c.in_ok-add_finally-in-Try.ensures (ap (λ
    (x : Delimited). mentioned_delimited x) c.in-Try.is ∙ mentions-Try _ _ _ _ _)

pub blocks::add_block-loop-entry-preserved : goal.blocks::add_block-loop-entry-preserved
blocks::add_block-loop-entry-preserved t c =
    one_more_of mentioned_block_item c.args.block.now c.loop-entry.entry-index c.entry-item.result
    c.args.names.now c.loop-entry.names _ c.loop-entry-test.true c.entry-item.is
    c.loop-entry.invariant
    (one_added _ c.in_ok-add_item.ensures (block_item_mentions c.entry-item.result))

pub blocks::add_item-returns-in_ok-add_variable-in-Variable : goal.blocks::add_item-returns-in_ok-add_variable-in-Variable
blocks::add_item-returns-in_ok-add_variable-in-Variable t c =
    one_added _ (by (λ
    (x : Variable). mentioned_variable x) _ c.get.ensures
    c.in_ok-add_variable-in-Variable.ensures) (ap (λ
    (x : Item). mentioned_item x) c.in-Variable.is ∙ mentions-Variable _)

pub blocks::add_item-returns-in_ok-add_expr-in-Names : goal.blocks::add_item-returns-in_ok-add_expr-in-Names
blocks::add_item-returns-in_ok-add_expr-in-Names t c =
    two_added _ _ _ (by (λ
    (x : TypeTree). mentioned_type x) _ c.get-in-Names.ensures
    c.in_ok-add_type-in-Names.ensures) (by (λ
    (x : Expr). mentioned_expr x) _ c.get-in-Names-2.ensures c.in_ok-add_expr-in-Names.ensures)
    (ap (λ (x : Item). mentioned_item x) c.in-Names.is ∙ mentions-Names _ _ _ _ _ _ _ _)

pub blocks::add_item-returns-in_ok-add_expr-in-Expr : goal.blocks::add_item-returns-in_ok-add_expr-in-Expr
blocks::add_item-returns-in_ok-add_expr-in-Expr t c =
    one_added _ c.in_ok-add_expr-in-Expr.ensures (ap (λ
    (x : Item). mentioned_item x) c.in-Expr.is ∙ mentions-Expr _)

pub blocks::add_variable-returns : goal.blocks::add_variable-returns
blocks::add_variable-returns t c =
    two_added _ _ _ c.in_ok-add_type.ensures c.in_ok-add_expr.ensures
    (variable_mentions c.args.variable.now)

pub blocks::add_alsos-loop-also-preserved : goal.blocks::add_alsos-loop-also-preserved
blocks::add_alsos-loop-also-preserved t c =
    one_more_of mentioned_also c.args.others.now c.loop-also.also-index c.also-item.result
    c.args.names.now c.loop-also.names _ c.loop-also-test.true c.also-item.is c.loop-also.invariant
    (one_added _ (by (λ
    (l : List BlockItem). all_mentioned (map mentioned_block_item l)) _ c.as_slice.ensures
    c.in_ok-add_block.ensures) (also_mentions c.also-item.result))

pub blocks::add_elifs-loop-elif-preserved : goal.blocks::add_elifs-loop-elif-preserved
blocks::add_elifs-loop-elif-preserved t c =
    one_more_of mentioned_elif c.args.elifs.now c.loop-elif.elif-index c.elif-item.result
    c.args.names.now c.loop-elif.names _ c.loop-elif-test.true c.elif-item.is c.loop-elif.invariant
    c.in_ok-add_elif.ensures

pub blocks::add_elif-returns : goal.blocks::add_elif-returns
blocks::add_elif-returns t c =
    two_added _ _ _ c.in_ok-add_flat.ensures (by (λ
    (l : List BlockItem). all_mentioned (map mentioned_block_item l)) _ c.as_slice.ensures
    c.in_ok-add_block.ensures) (elif_mentions c.args.elif.now)

pub blocks::add_else_block-returns-in_ok-add_block : goal.blocks::add_else_block-returns-in_ok-add_block
blocks::add_else_block-returns-in_ok-add_block t c =
    one_added _ (by (λ
    (l : List BlockItem). all_mentioned (map mentioned_block_item l)) _ c.as_slice.ensures
    c.in_ok-add_block.ensures) (ap (λ
    (o : Option ElseBlock). maybe_mentioned (option_map mentioned_else_block o)) c.in-Some.is
    ∙ else_block_mentions c.in-Some.otherwise)

pub blocks::add_next_generators-loop-next-preserved : goal.blocks::add_next_generators-loop-next-preserved
blocks::add_next_generators-loop-next-preserved t c =
    one_more_of mentioned_next_generator c.args.others.now c.loop-next.next-index c.next-item.result
    c.args.names.now c.loop-next.names _ c.loop-next-test.true c.next-item.is c.loop-next.invariant
    (one_added _ c.in_ok-add_generator.ensures (next_generator_mentions c.next-item.result))

pub blocks::add_case_clauses-loop-clause-preserved : goal.blocks::add_case_clauses-loop-clause-preserved
blocks::add_case_clauses-loop-clause-preserved t c =
    one_more_of mentioned_case_clause c.args.clauses.now c.loop-clause.clause-index
    c.clause-item.result c.args.names.now c.loop-clause.names _ c.loop-clause-test.true
    c.clause-item.is c.loop-clause.invariant
    c.in_ok-add_case_clause.ensures

pub blocks::add_case_clause-returns : goal.blocks::add_case_clause-returns
blocks::add_case_clause-returns t c =
    two_added _ _ _ c.in_ok-add_flat.ensures c.in_ok-add_expr.ensures
    (case_clause_mentions c.args.clause.now)

pub blocks::add_type_clauses-loop-clause-preserved : goal.blocks::add_type_clauses-loop-clause-preserved
blocks::add_type_clauses-loop-clause-preserved t c =
    one_more_of mentioned_type_clause c.args.clauses.now c.loop-clause.clause-index
    c.clause-item.result c.args.names.now c.loop-clause.names _ c.loop-clause-test.true
    c.clause-item.is c.loop-clause.invariant
    c.in_ok-add_type_clause.ensures

pub blocks::add_type_clause-returns : goal.blocks::add_type_clause-returns
blocks::add_type_clause-returns t c =
    two_added _ _ _ c.in_ok-add_type.ensures c.in_ok-add_expr.ensures
    (type_clause_mentions c.args.clause.now)

pub blocks::add_else_clause-returns-in_ok-add_expr : goal.blocks::add_else_clause-returns-in_ok-add_expr
blocks::add_else_clause-returns-in_ok-add_expr t c =
    one_added _ (by (λ
    (x : ElseClause). mentioned_expr (out-ElseClause x).value) _ c.get.ensures
    c.in_ok-add_expr.ensures) (ap (λ
    (o : Option ElseClause). maybe_mentioned (option_map mentioned_else_clause o)) c.in-Some.is
    ∙ else_clause_mentions c.in-Some.otherwise)

pub blocks::add_catch-returns-in_ok-add_type_clauses : goal.blocks::add_catch-returns-in_ok-add_type_clauses
blocks::add_catch-returns-in_ok-add_type_clauses t c =
    one_added _ (by (λ
    (l : List TypeClause). all_mentioned (map mentioned_type_clause l)) _ c.as_slice.ensures
    c.in_ok-add_type_clauses.ensures) (ap (λ
    (o : Option Catch). maybe_mentioned (option_map mentioned_catch o)) c.in-Some.is
    ∙ catch_mentions c.in-Some.catch)

pub blocks::add_finally-returns-in_ok-add_block : goal.blocks::add_finally-returns-in_ok-add_block
blocks::add_finally-returns-in_ok-add_block t c =
    one_added _ (by (λ
    (l : List BlockItem). all_mentioned (map mentioned_block_item l)) _ c.as_slice.ensures
    c.in_ok-add_block.ensures) (ap (λ
    (o : Option Finally). maybe_mentioned (option_map mentioned_finally o)) c.in-Some.is
    ∙ finally_mentions c.in-Some.finally)
