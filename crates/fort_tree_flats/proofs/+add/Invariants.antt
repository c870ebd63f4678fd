use Rattle.std.proofs.Common.{◌≡◌, ◌++◌, take}
use Rattle.std.specs.Prelude.{map}
use Rattle.fort_tree.specs.Measured.{Joined, all_flats}
use Rattle.fort_tree.specs.Measuring.{measured_also, measured_block_item, measured_elif, measured_next_generator, measured_case_clause, measured_type_clause, measured_next_expr, measured_flat_part, measured_run_part}
use Rattle.fort_tree_flats.proofs.+add.Given as goal

abbrev pub invariant-blocks::add_alsos-loop-also : goal.invariant-blocks::add_alsos-loop-also
invariant-blocks::add_alsos-loop-also l =
    l.rows ≡ l.fn.rows ++ all_flats (map measured_also (take l.also-index l.others))

abbrev pub invariant-blocks::add_block-loop-entry : goal.invariant-blocks::add_block-loop-entry
invariant-blocks::add_block-loop-entry l =
    l.rows ≡ l.fn.rows ++ all_flats (map measured_block_item (take l.entry-index l.block))

abbrev pub invariant-blocks::add_elifs-loop-elif : goal.invariant-blocks::add_elifs-loop-elif
invariant-blocks::add_elifs-loop-elif l =
    l.rows ≡ l.fn.rows ++ all_flats (map measured_elif (take l.elif-index l.elifs))

abbrev pub invariant-blocks::add_next_generators-loop-next : goal.invariant-blocks::add_next_generators-loop-next
invariant-blocks::add_next_generators-loop-next l =
    l.rows ≡ l.fn.rows ++ all_flats (map measured_next_generator (take l.next-index l.others))

abbrev pub invariant-clauses::add_case_clauses-loop-clause : goal.invariant-clauses::add_case_clauses-loop-clause
invariant-clauses::add_case_clauses-loop-clause l =
    l.rows ≡ l.fn.rows ++ all_flats (map measured_case_clause (take l.clause-index l.clauses))

abbrev pub invariant-clauses::add_type_clauses-loop-clause : goal.invariant-clauses::add_type_clauses-loop-clause
invariant-clauses::add_type_clauses-loop-clause l =
    l.rows ≡ l.fn.rows ++ all_flats (map measured_type_clause (take l.clause-index l.clauses))

abbrev pub invariant-expressions::add_next_exprs-loop-next : goal.invariant-expressions::add_next_exprs-loop-next
invariant-expressions::add_next_exprs-loop-next l =
    l.rows ≡ l.fn.rows ++ all_flats (map measured_next_expr (take l.next-index l.others))

abbrev pub invariant-units::add_parts-loop-part : goal.invariant-units::add_parts-loop-part
invariant-units::add_parts-loop-part l =
    l.rows ≡ l.fn.rows
    ++ all_flats (map (λ
    (part : Joined). part.unit) (map measured_flat_part (take l.part-index l.parts)))

abbrev pub invariant-units::add_run_parts-loop-part : goal.invariant-units::add_run_parts-loop-part
invariant-units::add_run_parts-loop-part l =
    l.rows ≡ l.fn.rows ++ all_flats (map measured_run_part (take l.part-index l.parts))
