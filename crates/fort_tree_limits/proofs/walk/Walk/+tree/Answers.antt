use Rattle.std.proofs.Common.{sym}
use Rattle.std.proofs.lemmas.List.{append-nil}
use Rattle.fort_tree.specs.Measuring.{measured_also, measured_block_item, measured_case_clause, measured_elif, measured_flat_part, measured_next_expr, measured_next_generator, measured_run_part, measured_type_clause}
use Rattle.fort_tree_limits.proofs.EarliestLaws.{earliest_append, earliest_none, one_more}
use Rattle.fort_tree_limits.proofs.ExprWalks.{walks-Flat, walks-Assign, walks-Open, walks-OpenAssign, walks-Atomic, walks-Tryatomic, walks-Throw, walks-Spawn, walks-Fn, walks-Big, walks-Parallel, walks-Sequential, flat_walks, walks-Run, walks-Infix, operand_walks, run_walks, walks-Atom, walks-Postfix, walks-Subscript, walks-Power, walks-Field, walks-Call, walks-Name, walks-Number, walks-Text, walks-True, walks-False, walks-Self_, walks-Parens, walks-Delimited, walks-ArrayFill, expr_list_walks, next_expr_walks}
use Rattle.fort_tree_limits.proofs.BlockWalks.{walks-Do, walks-If, walks-While, walks-For, walks-Case, walks-Typecase, walks-Try, also_walks, elif_walks, else_block_walks, next_generator_walks, case_clause_walks, type_clause_walks, else_clause_walks, catch_walks, finally_walks, block_item_walks, variable_walks, walks-Variable, walks-Names, walks-Expr, block_first, block_empty}
use Rattle.fort_tree_limits.proofs.walk.Walk.+tree.Goals as goal

pub expr-returns-in-Flat : goal.expr-returns-in-Flat
expr-returns-in-Flat t c = rw (c.in-Flat.is, walks-Flat) (cc)

pub expr-returns-in-Assign : goal.expr-returns-in-Assign
expr-returns-in-Assign t c = rw (c.in-Assign.is, walks-Assign) (cc)

pub expr-returns-in-Open : goal.expr-returns-in-Open
expr-returns-in-Open t c = rw (c.in-Open.is, walks-Open) (cc)

pub expr-returns-in-OpenAssign : goal.expr-returns-in-OpenAssign
expr-returns-in-OpenAssign t c = rw (c.in-OpenAssign.is, walks-OpenAssign) (cc)

pub head-returns-in-Atomic : goal.head-returns-in-Atomic
head-returns-in-Atomic t c = rw (c.in-Atomic.is, walks-Atomic)

pub head-returns-in-Tryatomic : goal.head-returns-in-Tryatomic
head-returns-in-Tryatomic t c = rw (c.in-Tryatomic.is, walks-Tryatomic)

pub head-returns-in-Throw : goal.head-returns-in-Throw
head-returns-in-Throw t c = rw (c.in-Throw.is, walks-Throw)

pub head-returns-in-Spawn : goal.head-returns-in-Spawn
head-returns-in-Spawn t c = rw (c.in-Spawn.is, walks-Spawn)

pub head-returns-in-Fn : goal.head-returns-in-Fn
head-returns-in-Fn t c = rw (c.in-Fn.is, walks-Fn) (cc)

pub head-returns-in-Big : goal.head-returns-in-Big
head-returns-in-Big t c = rw (c.in-Big.is, walks-Big) (cc)

pub generator-returns-in-Parallel : goal.generator-returns-in-Parallel
generator-returns-in-Parallel t c = rw (c.in-Parallel.is, walks-Parallel) (cc)

pub generator-returns-in-Sequential : goal.generator-returns-in-Sequential
generator-returns-in-Sequential t c = rw (c.in-Sequential.is, walks-Sequential) (cc)

pub flat_part-returns-in-Run : goal.flat_part-returns-in-Run
flat_part-returns-in-Run t c = rw (c.in-Run.is, walks-Run) (cc)

pub flat_part-returns-in-Infix : goal.flat_part-returns-in-Infix
flat_part-returns-in-Infix t c = rw (c.in-Infix.is, walks-Infix) (cc)

pub run_part-returns-in-Atom : goal.run_part-returns-in-Atom
run_part-returns-in-Atom t c = rw (c.in-Atom.is, walks-Atom) (cc)

pub run_part-returns-in-Postfix : goal.run_part-returns-in-Postfix
run_part-returns-in-Postfix t c = rw (c.in-Postfix.is, walks-Postfix) (cc)

pub postfix-returns-in-Subscript : goal.postfix-returns-in-Subscript
postfix-returns-in-Subscript t c = rw (c.in-Subscript.is, walks-Subscript) (cc)

pub postfix-returns-in-Power : goal.postfix-returns-in-Power
postfix-returns-in-Power t c = rw (c.in-Power.is, walks-Power) (cc)

pub postfix-returns-in-Field : goal.postfix-returns-in-Field
postfix-returns-in-Field t c = rw (c.in-Field.is, walks-Field)

pub postfix-returns-in-Call : goal.postfix-returns-in-Call
postfix-returns-in-Call t c = rw (c.in-Call.is, walks-Call) (cc)

pub atom-returns-in-Name : goal.atom-returns-in-Name
atom-returns-in-Name t c = rw (c.in-Name.is, walks-Name)

pub atom-returns-in-Number : goal.atom-returns-in-Number
atom-returns-in-Number t c = rw (c.in-Number.is, walks-Number)

pub atom-returns-in-Text : goal.atom-returns-in-Text
atom-returns-in-Text t c = rw (c.in-Text.is, walks-Text)

pub atom-returns-in-True : goal.atom-returns-in-True
atom-returns-in-True t c = rw (c.in-True.is, walks-True)

pub atom-returns-in-False : goal.atom-returns-in-False
atom-returns-in-False t c = rw (c.in-False.is, walks-False)

pub atom-returns-in-Self_ : goal.atom-returns-in-Self_
atom-returns-in-Self_ t c = rw (c.in-Self_.is, walks-Self_)

pub atom-returns-in-Parens : goal.atom-returns-in-Parens
atom-returns-in-Parens t c = rw (c.in-Parens.is, walks-Parens) (cc)

pub atom-returns-in-Delimited : goal.atom-returns-in-Delimited
atom-returns-in-Delimited t c = rw (c.in-Delimited.is, walks-Delimited) (cc)

pub atom-returns-in-ArrayFill : goal.atom-returns-in-ArrayFill
atom-returns-in-ArrayFill t c = rw (c.in-ArrayFill.is, walks-ArrayFill) (cc)

pub delimited-returns-in-Do : goal.delimited-returns-in-Do
delimited-returns-in-Do t c = rw (c.in-Do.is, walks-Do) (cc)

pub delimited-returns-in-If : goal.delimited-returns-in-If
delimited-returns-in-If t c = rw (c.in-If.is, walks-If) (cc)

pub delimited-returns-in-While : goal.delimited-returns-in-While
delimited-returns-in-While t c = rw (c.in-While.is, walks-While) (cc)

pub delimited-returns-in-For : goal.delimited-returns-in-For
delimited-returns-in-For t c = rw (c.in-For.is, walks-For) (cc)

pub delimited-returns-in-Case : goal.delimited-returns-in-Case
delimited-returns-in-Case t c = rw (c.in-Case.is, walks-Case) (cc)

pub delimited-returns-in-Typecase : goal.delimited-returns-in-Typecase
delimited-returns-in-Typecase t c = rw (c.in-Typecase.is, walks-Typecase) (cc)

pub delimited-returns-in-Try : goal.delimited-returns-in-Try
delimited-returns-in-Try t c = rw (c.in-Try.is, walks-Try) (cc)

pub item-returns-in-Variable : goal.item-returns-in-Variable
item-returns-in-Variable t c = rw (c.in-Variable.is, walks-Variable) (cc)

pub item-returns-in-Names : goal.item-returns-in-Names
item-returns-in-Names t c = rw (c.in-Names.is, walks-Names) (cc)

pub item-returns-in-Expr : goal.item-returns-in-Expr
item-returns-in-Expr t c = rw (c.in-Expr.is, walks-Expr) (cc)

pub flat-returns : goal.flat-returns
flat-returns t c = rw flat_walks (cc)

pub operand-returns : goal.operand-returns
operand-returns t c = rw operand_walks (cc)

pub run-returns : goal.run-returns
run-returns t c = rw run_walks (cc)

pub variable-returns : goal.variable-returns
variable-returns t c = rw variable_walks (cc)

pub elif-returns : goal.elif-returns
elif-returns t c = rw elif_walks (cc)

pub case_clause-returns : goal.case_clause-returns
case_clause-returns t c = rw case_clause_walks (cc)

pub type_clause-returns : goal.type_clause-returns
type_clause-returns t c = rw type_clause_walks (cc)

pub parens-returns : goal.parens-returns
parens-returns t c = rw earliest_append (cc)

pub maybe_head-returns-in-None : goal.maybe_head-returns-in-None
maybe_head-returns-in-None t c = rw (c.in-None.is, earliest_none)

pub expr_list-returns-in-Some : goal.expr_list-returns-in-Some
expr_list-returns-in-Some t c = rw (c.in-Some.is, expr_list_walks) (cc)

pub expr_list-returns-in-None : goal.expr_list-returns-in-None
expr_list-returns-in-None t c = rw (c.in-None.is, earliest_none)

pub catch-returns-in-Some : goal.catch-returns-in-Some
catch-returns-in-Some t c = rw (c.in-Some.is, catch_walks) (cc)

pub catch-returns-in-None : goal.catch-returns-in-None
catch-returns-in-None t c = rw (c.in-None.is, earliest_none)

pub else_block-returns-in-Some : goal.else_block-returns-in-Some
else_block-returns-in-Some t c = rw (c.in-Some.is, append-nil, else_block_walks) (cc)

pub else_block-returns-in-None : goal.else_block-returns-in-None
else_block-returns-in-None t c = rw (c.in-None.is, earliest_none)

pub else_clause-returns-in-Some : goal.else_clause-returns-in-Some
else_clause-returns-in-Some t c = rw (c.in-Some.is, append-nil, else_clause_walks) (cc)

pub else_clause-returns-in-None : goal.else_clause-returns-in-None
else_clause-returns-in-None t c = rw (c.in-None.is, earliest_none)

pub finally-returns-in-Some : goal.finally-returns-in-Some
finally-returns-in-Some t c = rw (c.in-Some.is, append-nil, finally_walks) (cc)

pub finally-returns-in-None : goal.finally-returns-in-None
finally-returns-in-None t c = rw (c.in-None.is, earliest_none)

pub block-returns-in-Some : goal.block-returns-in-Some
block-returns-in-Some t c = rw (block_first _ _ _ c.in-Some.ensures.value) (cc)

pub block-returns-in-None : goal.block-returns-in-None
block-returns-in-None t c = rw (block_empty _ _ c.in-None.ensures.value)

pub flat_parts-loop-part-init : goal.flat_parts-loop-part-init
flat_parts-loop-part-init t c = sym (earliest_none _)

pub flat_parts-loop-part-preserved : goal.flat_parts-loop-part-preserved
flat_parts-loop-part-preserved t c =
    one_more (λ part. (measured_flat_part part).unit) c.as_slice-part-items.result.now
    c.loop-part.part-index c.part-item.result c.args.self.now.earliest c.loop-part.self.earliest
    c.flat_part.new.self.earliest c.loop-part-test.true c.part-item.is c.loop-part.invariant
    c.flat_part.ensures

pub run_parts-loop-part-init : goal.run_parts-loop-part-init
run_parts-loop-part-init t c = sym (earliest_none _)

pub run_parts-loop-part-preserved : goal.run_parts-loop-part-preserved
run_parts-loop-part-preserved t c =
    one_more measured_run_part c.as_slice-part-items.result.now c.loop-part.part-index
    c.part-item.result c.args.self.now.earliest c.loop-part.self.earliest
    c.run_part.new.self.earliest c.loop-part-test.true c.part-item.is c.loop-part.invariant
    c.run_part.ensures

pub next_exprs-loop-next-init : goal.next_exprs-loop-next-init
next_exprs-loop-next-init t c = sym (earliest_none _)

pub next_exprs-loop-next-preserved : goal.next_exprs-loop-next-preserved
next_exprs-loop-next-preserved t c =
    one_more measured_next_expr c.as_slice-next-items.result.now c.loop-next.next-index
    c.next-item.result c.args.self.now.earliest c.loop-next.self.earliest c.expr.new.self.earliest
    c.loop-next-test.true c.next-item.is c.loop-next.invariant (rw next_expr_walks (cc))

pub items-loop-entry-init : goal.items-loop-entry-init
items-loop-entry-init t c = sym (earliest_none _)

pub items-loop-entry-preserved : goal.items-loop-entry-preserved
items-loop-entry-preserved t c =
    one_more measured_block_item c.as_slice-entry-items.result.now c.loop-entry.entry-index
    c.entry-item.result c.args.self.now.earliest c.loop-entry.self.earliest c.item.new.self.earliest
    c.loop-entry-test.true c.entry-item.is c.loop-entry.invariant (rw block_item_walks (cc))

pub alsos-loop-also-init : goal.alsos-loop-also-init
alsos-loop-also-init t c = sym (earliest_none _)

pub alsos-loop-also-preserved : goal.alsos-loop-also-preserved
alsos-loop-also-preserved t c =
    one_more measured_also c.as_slice-also-items.result.now c.loop-also.also-index
    c.also-item.result c.args.self.now.earliest c.loop-also.self.earliest c.block.new.self.earliest
    c.loop-also-test.true c.also-item.is c.loop-also.invariant (rw also_walks (cc))

pub elifs-loop-elif-init : goal.elifs-loop-elif-init
elifs-loop-elif-init t c = sym (earliest_none _)

pub elifs-loop-elif-preserved : goal.elifs-loop-elif-preserved
elifs-loop-elif-preserved t c =
    one_more measured_elif c.as_slice-elif-items.result.now c.loop-elif.elif-index
    c.elif-item.result c.args.self.now.earliest c.loop-elif.self.earliest c.elif.new.self.earliest
    c.loop-elif-test.true c.elif-item.is c.loop-elif.invariant c.elif.ensures

pub next_generators-loop-next-init : goal.next_generators-loop-next-init
next_generators-loop-next-init t c = sym (earliest_none _)

pub next_generators-loop-next-preserved : goal.next_generators-loop-next-preserved
next_generators-loop-next-preserved t c =
    one_more measured_next_generator c.as_slice-next-items.result.now c.loop-next.next-index
    c.next-item.result c.args.self.now.earliest c.loop-next.self.earliest
    c.generator.new.self.earliest c.loop-next-test.true c.next-item.is c.loop-next.invariant
    (rw next_generator_walks (cc))

pub case_clauses-loop-clause-init : goal.case_clauses-loop-clause-init
case_clauses-loop-clause-init t c = sym (earliest_none _)

pub case_clauses-loop-clause-preserved : goal.case_clauses-loop-clause-preserved
case_clauses-loop-clause-preserved t c =
    one_more measured_case_clause c.as_slice-clause-items.result.now c.loop-clause.clause-index
    c.clause-item.result c.args.self.now.earliest c.loop-clause.self.earliest
    c.case_clause.new.self.earliest c.loop-clause-test.true c.clause-item.is c.loop-clause.invariant
    c.case_clause.ensures

pub type_clauses-loop-clause-init : goal.type_clauses-loop-clause-init
type_clauses-loop-clause-init t c = sym (earliest_none _)

pub type_clauses-loop-clause-preserved : goal.type_clauses-loop-clause-preserved
type_clauses-loop-clause-preserved t c =
    one_more measured_type_clause c.as_slice-clause-items.result.now c.loop-clause.clause-index
    c.clause-item.result c.args.self.now.earliest c.loop-clause.self.earliest
    c.type_clause.new.self.earliest c.loop-clause-test.true c.clause-item.is c.loop-clause.invariant
    c.type_clause.ensures
