use Rattle.std.proofs.Common.{◌≡◌, ◌++◌, take}
use Rattle.std.specs.Prelude.{map}
use Rattle.fort_tree_type_names.specs.Mentioned.{all_mentioned}
use Rattle.fort_tree_type_names.specs.Mentioning.{mentioned_also, mentioned_block_item, mentioned_case_clause, mentioned_elif, mentioned_flat_part, mentioned_next_expr, mentioned_next_generator, mentioned_run_part, mentioned_type_clause}
use Rattle.fort_tree_type_names.proofs.+tree.Given as goal

abbrev pub invariant-exprs::add_flat_parts-loop-part : goal.invariant-exprs::add_flat_parts-loop-part
invariant-exprs::add_flat_parts-loop-part l =
    l.names ≡ l.fn.names ++ all_mentioned (map mentioned_flat_part (take l.part-index l.parts))

abbrev pub invariant-exprs::add_run_parts-loop-part : goal.invariant-exprs::add_run_parts-loop-part
invariant-exprs::add_run_parts-loop-part l =
    l.names ≡ l.fn.names ++ all_mentioned (map mentioned_run_part (take l.part-index l.parts))

abbrev pub invariant-exprs::add_next_exprs-loop-next : goal.invariant-exprs::add_next_exprs-loop-next
invariant-exprs::add_next_exprs-loop-next l =
    l.names ≡ l.fn.names ++ all_mentioned (map mentioned_next_expr (take l.next-index l.exprs))

abbrev pub invariant-blocks::add_block-loop-entry : goal.invariant-blocks::add_block-loop-entry
invariant-blocks::add_block-loop-entry l =
    l.names ≡ l.fn.names ++ all_mentioned (map mentioned_block_item (take l.entry-index l.block))

abbrev pub invariant-blocks::add_alsos-loop-also : goal.invariant-blocks::add_alsos-loop-also
invariant-blocks::add_alsos-loop-also l =
    l.names ≡ l.fn.names ++ all_mentioned (map mentioned_also (take l.also-index l.others))

abbrev pub invariant-blocks::add_elifs-loop-elif : goal.invariant-blocks::add_elifs-loop-elif
invariant-blocks::add_elifs-loop-elif l =
    l.names ≡ l.fn.names ++ all_mentioned (map mentioned_elif (take l.elif-index l.elifs))

abbrev pub invariant-blocks::add_next_generators-loop-next : goal.invariant-blocks::add_next_generators-loop-next
invariant-blocks::add_next_generators-loop-next l =
    l.names ≡ l.fn.names
    ++ all_mentioned (map mentioned_next_generator (take l.next-index l.others))

abbrev pub invariant-blocks::add_case_clauses-loop-clause : goal.invariant-blocks::add_case_clauses-loop-clause
invariant-blocks::add_case_clauses-loop-clause l =
    l.names ≡ l.fn.names
    ++ all_mentioned (map mentioned_case_clause (take l.clause-index l.clauses))

abbrev pub invariant-blocks::add_type_clauses-loop-clause : goal.invariant-blocks::add_type_clauses-loop-clause
invariant-blocks::add_type_clauses-loop-clause l =
    l.names ≡ l.fn.names
    ++ all_mentioned (map mentioned_type_clause (take l.clause-index l.clauses))
