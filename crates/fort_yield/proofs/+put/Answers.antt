use Rattle.std.proofs.Common.{arith, rules, append_assoc}
use Rattle.std.proofs.lemmas.Grind.{common_steps}
use Rattle.fort_tree.proofs.SaysFlats.{operand_says, expr_list_says, flat_says, next_expr_says, run_says, says-ArrayFill, says-Assign, says-Atom, says-Atomic, says-Big, says-Call, says-Delimited, says-False, says-Field, says-Flat, says-Fn, says-Infix, says-Name, says-Number, says-Open, says-OpenAssign, says-Parallel, says-Parens, says-Postfix, says-Power, says-Run, says-Self_, says-Sequential, says-Subscript, says-Text, says-Throw, says-Spawn, says-True, says-Tryatomic}
use Rattle.fort_tree.proofs.SaysBlocks.{also_says, block_item_says, case_clause_says, catch_says, elif_says, else_block_says, else_clause_says, finally_says, next_generator_says, says-Case, says-Do, says-Expr, says-For, says-If, says-Names, says-Try, says-Typecase, says-Variable, says-While, type_clause_says, variable_says}
use Rattle.fort_tree.specs.Yield.{said_also, said_block_item, said_case_clause, said_elif, said_flat_part, said_next_expr, said_next_generator, said_run_part, said_type_clause}
use Rattle.fort_yield.proofs.More.{one_more, one_more_entry, after_var_tokens, prefixed_tokens}
use Rattle.fort_yield.proofs.+put.Goals as goal

pub expr::put_expr-returns-in_ok-put_flat-in-Flat : goal.expr::put_expr-returns-in_ok-put_flat-in-Flat
expr::put_expr-returns-in_ok-put_flat-in-Flat t c =
    let is = c.in-Flat.is in grind (arith, common_steps, says-Flat)

pub expr::put_expr-returns-in_ok-put_flat-in-Assign-2 : goal.expr::put_expr-returns-in_ok-put_flat-in-Assign-2
expr::put_expr-returns-in_ok-put_flat-in-Assign-2 t c =
    let is = c.in-Assign.is in grind (arith, common_steps, says-Assign)

pub expr::put_expr-returns-in_ok-put_flat-in-Open : goal.expr::put_expr-returns-in_ok-put_flat-in-Open
expr::put_expr-returns-in_ok-put_flat-in-Open t c =
    let is = c.in-Open.is in grind (arith, common_steps, says-Open)

pub expr::put_expr-returns-in_ok-put_flat-in-OpenAssign-2 : goal.expr::put_expr-returns-in_ok-put_flat-in-OpenAssign-2
expr::put_expr-returns-in_ok-put_flat-in-OpenAssign-2 t c =
    let is = c.in-OpenAssign.is in grind (arith, common_steps, says-OpenAssign)

pub expr::put_head-returns-in_ok-put_word-in-Atomic : goal.expr::put_head-returns-in_ok-put_word-in-Atomic
expr::put_head-returns-in_ok-put_word-in-Atomic t c =
    let is = c.in-Atomic.is in grind (arith, common_steps, says-Atomic)

pub expr::put_head-returns-in_ok-put_word-in-Tryatomic : goal.expr::put_head-returns-in_ok-put_word-in-Tryatomic
expr::put_head-returns-in_ok-put_word-in-Tryatomic t c =
    let is = c.in-Tryatomic.is in grind (arith, common_steps, says-Tryatomic)

pub expr::put_head-returns-in_ok-put_word-in-Throw : goal.expr::put_head-returns-in_ok-put_word-in-Throw
expr::put_head-returns-in_ok-put_word-in-Throw t c =
    let is = c.in-Throw.is in grind (arith, common_steps, says-Throw)

pub expr::put_head-returns-in_ok-put_word-in-Spawn : goal.expr::put_head-returns-in_ok-put_word-in-Spawn
expr::put_head-returns-in_ok-put_word-in-Spawn t c =
    let is = c.in-Spawn.is in grind (arith, common_steps, says-Spawn)

pub expr::put_head-returns-in_ok-put_mark-in-Fn-3 : goal.expr::put_head-returns-in_ok-put_mark-in-Fn-3
expr::put_head-returns-in_ok-put_mark-in-Fn-3 t c =
    let is = c.in-Fn.is in grind (arith, common_steps, says-Fn)

pub expr::put_head-returns-in_ok-put_mark-in-Big-2 : goal.expr::put_head-returns-in_ok-put_mark-in-Big-2
expr::put_head-returns-in_ok-put_mark-in-Big-2 t c =
    let is = c.in-Big.is in grind (arith, common_steps, says-Big)

pub expr::put_generator-returns-in_ok-put_flat-in-Parallel : goal.expr::put_generator-returns-in_ok-put_flat-in-Parallel
expr::put_generator-returns-in_ok-put_flat-in-Parallel t c =
    let is = c.in-Parallel.is in grind (arith, common_steps, says-Parallel)

pub expr::put_generator-returns-in_ok-put_mark-in-Sequential-3 : goal.expr::put_generator-returns-in_ok-put_mark-in-Sequential-3
expr::put_generator-returns-in_ok-put_mark-in-Sequential-3 t c =
    let is = c.in-Sequential.is in grind (arith, common_steps, says-Sequential)

pub expr::put_flat-returns : goal.expr::put_flat-returns
expr::put_flat-returns t c = let e = flat_says c.args.flat.now in grind (arith, common_steps, e)

pub expr::put_flat_parts-loop-part-preserved : goal.expr::put_flat_parts-loop-part-preserved
expr::put_flat_parts-loop-part-preserved t c =
    one_more said_flat_part c.args.parts.now c.loop-part.part-index c.part-item.result
    c.args.out.now c.loop-part.out c.put_flat_part.new.out c.loop-part-test.true c.part-item.is
    c.loop-part.invariant c.in_ok-put_flat_part.ensures

pub expr::put_flat_part-returns-in_ok-put_run-in-Run : goal.expr::put_flat_part-returns-in_ok-put_run-in-Run
expr::put_flat_part-returns-in_ok-put_run-in-Run t c =
    let is = c.in-Run.is in grind (arith, common_steps, says-Run)

pub expr::put_flat_part-returns-in_ok-put_operand-in-Infix : goal.expr::put_flat_part-returns-in_ok-put_operand-in-Infix
expr::put_flat_part-returns-in_ok-put_operand-in-Infix t c =
    let is = c.in-Infix.is in grind (arith, common_steps, says-Infix)

pub expr::put_run-returns : goal.expr::put_run-returns
expr::put_run-returns t c = let e = run_says c.args.run.now in grind (arith, common_steps, e)

pub expr::put_run_parts-loop-part-preserved : goal.expr::put_run_parts-loop-part-preserved
expr::put_run_parts-loop-part-preserved t c =
    one_more said_run_part c.args.parts.now c.loop-part.part-index c.part-item.result c.args.out.now
    c.loop-part.out c.put_run_part.new.out c.loop-part-test.true c.part-item.is
    c.loop-part.invariant c.in_ok-put_run_part.ensures

pub expr::put_run_part-returns-in_ok-put_atom-in-Atom : goal.expr::put_run_part-returns-in_ok-put_atom-in-Atom
expr::put_run_part-returns-in_ok-put_atom-in-Atom t c =
    let is = c.in-Atom.is in grind (arith, common_steps, says-Atom)

pub expr::put_run_part-returns-in_ok-put_postfix-in-Postfix : goal.expr::put_run_part-returns-in_ok-put_postfix-in-Postfix
expr::put_run_part-returns-in_ok-put_postfix-in-Postfix t c =
    let is = c.in-Postfix.is in grind (arith, common_steps, says-Postfix)

pub expr::put_postfix-returns-in_ok-put_mark-in-Subscript-2 : goal.expr::put_postfix-returns-in_ok-put_mark-in-Subscript-2
expr::put_postfix-returns-in_ok-put_mark-in-Subscript-2 t c =
    let is = c.in-Subscript.is in grind (arith, common_steps, says-Subscript)

pub expr::put_postfix-returns-in_ok-put_atom-in-Power : goal.expr::put_postfix-returns-in_ok-put_atom-in-Power
expr::put_postfix-returns-in_ok-put_atom-in-Power t c =
    let is = c.in-Power.is in grind (arith, common_steps, says-Power)

pub expr::put_postfix-returns-in_ok-put_name-in-Field : goal.expr::put_postfix-returns-in_ok-put_name-in-Field
expr::put_postfix-returns-in_ok-put_name-in-Field t c =
    let is = c.in-Field.is in grind (arith, common_steps, says-Field)

pub expr::put_postfix-returns-in_ok-put_mark-in-Call-3 : goal.expr::put_postfix-returns-in_ok-put_mark-in-Call-3
expr::put_postfix-returns-in_ok-put_mark-in-Call-3 t c =
    let is = c.in-Call.is in grind (arith, common_steps, says-Call)

pub expr::put_atom-returns-in_ok-put_name-in-Name : goal.expr::put_atom-returns-in_ok-put_name-in-Name
expr::put_atom-returns-in_ok-put_name-in-Name t c =
    let is = c.in-Name.is in grind (arith, common_steps, says-Name)

pub expr::put_atom-returns-in_ok-put_token-in-Number : goal.expr::put_atom-returns-in_ok-put_token-in-Number
expr::put_atom-returns-in_ok-put_token-in-Number t c =
    let is = c.in-Number.is in grind (arith, common_steps, says-Number)

pub expr::put_atom-returns-in_ok-put_token-in-Text : goal.expr::put_atom-returns-in_ok-put_token-in-Text
expr::put_atom-returns-in_ok-put_token-in-Text t c =
    let is = c.in-Text.is in grind (arith, common_steps, says-Text)

pub expr::put_atom-returns-in_ok-put_word-in-True : goal.expr::put_atom-returns-in_ok-put_word-in-True
expr::put_atom-returns-in_ok-put_word-in-True t c =
    let is = c.in-True.is in grind (arith, common_steps, says-True)

pub expr::put_atom-returns-in_ok-put_word-in-False : goal.expr::put_atom-returns-in_ok-put_word-in-False
expr::put_atom-returns-in_ok-put_word-in-False t c =
    let is = c.in-False.is in grind (arith, common_steps, says-False)

pub expr::put_atom-returns-in_ok-put_word-in-Self_ : goal.expr::put_atom-returns-in_ok-put_word-in-Self_
expr::put_atom-returns-in_ok-put_word-in-Self_ t c =
    let is = c.in-Self_.is in grind (arith, common_steps, says-Self_)

pub expr::put_atom-returns-in_ok-put_mark-in-Parens-2 : goal.expr::put_atom-returns-in_ok-put_mark-in-Parens-2
expr::put_atom-returns-in_ok-put_mark-in-Parens-2 t c =
    let is = c.in-Parens.is in grind (arith, common_steps, says-Parens)

pub expr::put_atom-returns-in_ok-put_delimited-in-Delimited : goal.expr::put_atom-returns-in_ok-put_delimited-in-Delimited
expr::put_atom-returns-in_ok-put_delimited-in-Delimited t c =
    let is = c.in-Delimited.is in grind (arith, common_steps, says-Delimited)

pub expr::put_expr_list-returns : goal.expr::put_expr_list-returns
expr::put_expr_list-returns t c =
    let e = expr_list_says c.args.list.now in grind (arith, common_steps, e)

pub expr::put_next_exprs-loop-next-preserved : goal.expr::put_next_exprs-loop-next-preserved
expr::put_next_exprs-loop-next-preserved t c =
    one_more said_next_expr c.args.others.now c.loop-next.next-index c.next-item.result
    c.args.out.now c.loop-next.out c.put_next_expr.new.out c.loop-next-test.true c.next-item.is
    c.loop-next.invariant c.in_ok-put_next_expr.ensures

pub expr::put_next_expr-returns : goal.expr::put_next_expr-returns
expr::put_next_expr-returns t c =
    let e = next_expr_says c.args.next.now in grind (arith, common_steps, e)

pub delimited::put_delimited-returns-in_ok-put_word-in-Do-2 : goal.delimited::put_delimited-returns-in_ok-put_word-in-Do-2
delimited::put_delimited-returns-in_ok-put_word-in-Do-2 t c =
    let is = c.in-Do.is in grind (arith, common_steps, says-Do)

pub delimited::put_delimited-returns-in_ok-put_word-in-While-3 : goal.delimited::put_delimited-returns-in_ok-put_word-in-While-3
delimited::put_delimited-returns-in_ok-put_word-in-While-3 t c =
    let is = c.in-While.is in grind (arith, common_steps, says-While)

pub delimited::put_delimited-returns-in_ok-put_word-in-For-3 : goal.delimited::put_delimited-returns-in_ok-put_word-in-For-3
delimited::put_delimited-returns-in_ok-put_word-in-For-3 t c =
    let is = c.in-For.is in grind (arith, common_steps, says-For)

pub delimited::put_delimited-returns-in_ok-put_word-in-Try-2 : goal.delimited::put_delimited-returns-in_ok-put_word-in-Try-2
delimited::put_delimited-returns-in_ok-put_word-in-Try-2 t c =
    let is = c.in-Try.is in grind (arith, common_steps, says-Try)

pub delimited::put_alsos-loop-also-preserved : goal.delimited::put_alsos-loop-also-preserved
delimited::put_alsos-loop-also-preserved t c =
    one_more said_also c.args.others.now c.loop-also.also-index c.also-item.result c.args.out.now
    c.loop-also.out c.put_also.new.out c.loop-also-test.true c.also-item.is c.loop-also.invariant
    c.in_ok-put_also.ensures

pub delimited::put_also-returns : goal.delimited::put_also-returns
delimited::put_also-returns t c =
    let e = also_says c.args.also.now in grind (arith, common_steps, e)

pub delimited::put_elifs-loop-elif-preserved : goal.delimited::put_elifs-loop-elif-preserved
delimited::put_elifs-loop-elif-preserved t c =
    one_more said_elif c.args.elifs.now c.loop-elif.elif-index c.elif-item.result c.args.out.now
    c.loop-elif.out c.put_elif.new.out c.loop-elif-test.true c.elif-item.is c.loop-elif.invariant
    c.in_ok-put_elif.ensures

pub delimited::put_elif-returns : goal.delimited::put_elif-returns
delimited::put_elif-returns t c =
    let e = elif_says c.args.elif.now in grind (arith, common_steps, e)

pub delimited::put_else_block-returns : goal.delimited::put_else_block-returns
delimited::put_else_block-returns t c =
    let e = else_block_says c.args.otherwise.now in grind (arith, common_steps, e)

pub delimited::put_next_generators-loop-next-preserved : goal.delimited::put_next_generators-loop-next-preserved
delimited::put_next_generators-loop-next-preserved t c =
    one_more said_next_generator c.args.others.now c.loop-next.next-index c.next-item.result
    c.args.out.now c.loop-next.out c.put_next_generator.new.out c.loop-next-test.true c.next-item.is
    c.loop-next.invariant c.in_ok-put_next_generator.ensures

pub delimited::put_next_generator-returns : goal.delimited::put_next_generator-returns
delimited::put_next_generator-returns t c =
    let e = next_generator_says c.args.next.now in grind (arith, common_steps, e)

pub delimited::put_case_clauses-loop-clause-preserved : goal.delimited::put_case_clauses-loop-clause-preserved
delimited::put_case_clauses-loop-clause-preserved t c =
    one_more_entry said_case_clause c.args.clauses.now c.loop-clause.clause-index
    c.clause-item.result c.args.out.now c.loop-clause.out c.put_case_clause.new.out
    c.loop-clause-test.true c.clause-item.is c.loop-clause.invariant c.in_ok-put_case_clause.ensures

pub delimited::put_case_clause-returns : goal.delimited::put_case_clause-returns
delimited::put_case_clause-returns t c =
    let e = case_clause_says c.args.clause.now in grind (arith, common_steps, e)

pub delimited::put_type_clauses-loop-clause-preserved : goal.delimited::put_type_clauses-loop-clause-preserved
delimited::put_type_clauses-loop-clause-preserved t c =
    one_more_entry said_type_clause c.args.clauses.now c.loop-clause.clause-index
    c.clause-item.result c.args.out.now c.loop-clause.out c.put_type_clause.new.out
    c.loop-clause-test.true c.clause-item.is c.loop-clause.invariant c.in_ok-put_type_clause.ensures

pub delimited::put_type_clause-returns : goal.delimited::put_type_clause-returns
delimited::put_type_clause-returns t c =
    let e = type_clause_says c.args.clause.now in grind (arith, common_steps, e)

pub delimited::put_else_clause-returns : goal.delimited::put_else_clause-returns
delimited::put_else_clause-returns t c =
    let e = else_clause_says c.args.clause.now in grind (arith, common_steps, e)

pub delimited::put_catch-returns : goal.delimited::put_catch-returns
delimited::put_catch-returns t c =
    let e = catch_says c.args.catch.now in grind (arith, common_steps, e)

pub delimited::put_finally-returns : goal.delimited::put_finally-returns
delimited::put_finally-returns t c =
    let e = finally_says c.args.finally.now in grind (arith, common_steps, e)

pub delimited::put_block-loop-entry-preserved : goal.delimited::put_block-loop-entry-preserved
delimited::put_block-loop-entry-preserved t c =
    one_more_entry said_block_item c.args.block.now c.loop-entry.entry-index c.entry-item.result
    c.args.out.now c.loop-entry.out c.put_block_item.new.out c.loop-entry-test.true c.entry-item.is
    c.loop-entry.invariant c.in_ok-put_block_item.ensures

pub delimited::put_block_item-returns : goal.delimited::put_block_item-returns
delimited::put_block_item-returns t c =
    let e = block_item_says c.args.entry.now in grind (arith, common_steps, e)

pub delimited::put_item-returns-in_ok-put_variable-in-Variable : goal.delimited::put_item-returns-in_ok-put_variable-in-Variable
delimited::put_item-returns-in_ok-put_variable-in-Variable t c =
    let is = c.in-Variable.is in grind (arith, common_steps, says-Variable)

pub delimited::put_item-returns-in_ok-put_expr-in-Names : goal.delimited::put_item-returns-in_ok-put_expr-in-Names
delimited::put_item-returns-in_ok-put_expr-in-Names t c =
    let is = c.in-Names.is in grind (arith, common_steps, says-Names)

pub delimited::put_item-returns-in_ok-put_expr-in-Expr : goal.delimited::put_item-returns-in_ok-put_expr-in-Expr
delimited::put_item-returns-in_ok-put_expr-in-Expr t c =
    let is = c.in-Expr.is in grind (arith, common_steps, says-Expr)

pub delimited::put_variable-returns : goal.delimited::put_variable-returns
delimited::put_variable-returns t c =
    let e = variable_says c.args.variable.now in grind (arith, common_steps, e, after_var_tokens)

pub expr::put_operand-returns : goal.expr::put_operand-returns
expr::put_operand-returns t c =
    let e = operand_says c.args.operand.now in grind (arith, common_steps, e, prefixed_tokens)

pub delimited::put_delimited-returns-in_ok-put_word-in-If-2 : goal.delimited::put_delimited-returns-in_ok-put_word-in-If-2
delimited::put_delimited-returns-in_ok-put_word-in-If-2 t c =
    let is = c.in-If.is
    in first_of (
      grind (arith, common_steps, says-If),
      grind (arith, append_assoc, says-If),
      search (rules, says-If, append_assoc),
    )

pub delimited::put_delimited-returns-in_ok-put_otherwise-in-Case : goal.delimited::put_delimited-returns-in_ok-put_otherwise-in-Case
delimited::put_delimited-returns-in_ok-put_otherwise-in-Case t c =
    let is = c.in-Case.is
    in first_of (
      grind (arith, common_steps, says-Case),
      grind (arith, append_assoc, says-Case),
      search (rules, says-Case, append_assoc),
    )

pub delimited::put_delimited-returns-in_ok-put_otherwise-in-Typecase : goal.delimited::put_delimited-returns-in_ok-put_otherwise-in-Typecase
delimited::put_delimited-returns-in_ok-put_otherwise-in-Typecase t c =
    let is = c.in-Typecase.is
    in first_of (
      grind (arith, common_steps, says-Typecase),
      grind (arith, append_assoc, says-Typecase),
      search (rules, says-Typecase, append_assoc),
    )

pub expr::put_atom-returns-in_ok-put_in_parens-in-ArrayFill-2 : goal.expr::put_atom-returns-in_ok-put_in_parens-in-ArrayFill-2
expr::put_atom-returns-in_ok-put_in_parens-in-ArrayFill-2 t c =
    let is = c.in-ArrayFill.is
    in first_of (
      grind (arith, common_steps, says-ArrayFill),
      grind (arith, append_assoc, says-ArrayFill),
      search (rules, says-ArrayFill, append_assoc),
    )
