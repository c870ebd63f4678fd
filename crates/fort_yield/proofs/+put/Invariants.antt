use Rattle.std.proofs.Common.{◌≡◌, ◌++◌, take}
use Rattle.std.specs.Prelude.{map}
use Rattle.fort_tree.specs.Said.{all_tokens, entries_tokens}
use Rattle.fort_tree.specs.Yield.{said_also, said_block_item, said_case_clause, said_elif, said_flat_part, said_next_expr, said_next_generator, said_run_part, said_type_clause}
use Rattle.fort_yield.proofs.+put.Given as goal

abbrev pub invariant-expr::put_flat_parts-loop-part : goal.invariant-expr::put_flat_parts-loop-part
invariant-expr::put_flat_parts-loop-part l =
    l.out ≡ l.fn.out ++ all_tokens (map said_flat_part (take l.part-index l.parts))

abbrev pub invariant-expr::put_run_parts-loop-part : goal.invariant-expr::put_run_parts-loop-part
invariant-expr::put_run_parts-loop-part l =
    l.out ≡ l.fn.out ++ all_tokens (map said_run_part (take l.part-index l.parts))

abbrev pub invariant-expr::put_next_exprs-loop-next : goal.invariant-expr::put_next_exprs-loop-next
invariant-expr::put_next_exprs-loop-next l =
    l.out ≡ l.fn.out ++ all_tokens (map said_next_expr (take l.next-index l.others))

abbrev pub invariant-delimited::put_alsos-loop-also : goal.invariant-delimited::put_alsos-loop-also
invariant-delimited::put_alsos-loop-also l =
    l.out ≡ l.fn.out ++ all_tokens (map said_also (take l.also-index l.others))

abbrev pub invariant-delimited::put_elifs-loop-elif : goal.invariant-delimited::put_elifs-loop-elif
invariant-delimited::put_elifs-loop-elif l =
    l.out ≡ l.fn.out ++ all_tokens (map said_elif (take l.elif-index l.elifs))

abbrev pub invariant-delimited::put_next_generators-loop-next : goal.invariant-delimited::put_next_generators-loop-next
invariant-delimited::put_next_generators-loop-next l =
    l.out ≡ l.fn.out ++ all_tokens (map said_next_generator (take l.next-index l.others))

abbrev pub invariant-delimited::put_case_clauses-loop-clause : goal.invariant-delimited::put_case_clauses-loop-clause
invariant-delimited::put_case_clauses-loop-clause l =
    l.out ≡ l.fn.out ++ entries_tokens (map said_case_clause (take l.clause-index l.clauses))

abbrev pub invariant-delimited::put_type_clauses-loop-clause : goal.invariant-delimited::put_type_clauses-loop-clause
invariant-delimited::put_type_clauses-loop-clause l =
    l.out ≡ l.fn.out ++ entries_tokens (map said_type_clause (take l.clause-index l.clauses))

abbrev pub invariant-delimited::put_block-loop-entry : goal.invariant-delimited::put_block-loop-entry
invariant-delimited::put_block-loop-entry l =
    l.out ≡ l.fn.out ++ entries_tokens (map said_block_item (take l.entry-index l.block))
