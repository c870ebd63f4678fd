use Rattle.std.proofs.Common.{◌≡◌, take}
use Rattle.std.specs.Prelude.{map}
use Rattle.fort_tree.specs.Measured.{all_crowded}
use Rattle.fort_tree.specs.Measuring.{measured_also, measured_block_item, measured_case_clause, measured_elif, measured_flat_part, measured_next_expr, measured_next_generator, measured_run_part, measured_type_clause}
use Rattle.fort_tree_limits.specs.Earliest.{earliest}
use Rattle.fort_tree_limits.proofs.walk.Walk.+tree.Given as goal

abbrev pub invariant-flat_parts-loop-part : goal.invariant-flat_parts-loop-part
invariant-flat_parts-loop-part l =
    l.self.earliest
    ≡ earliest l.fn.self.earliest
    (all_crowded (map (λ part. (measured_flat_part part).unit) (take l.part-index l.part-items)))

abbrev pub invariant-run_parts-loop-part : goal.invariant-run_parts-loop-part
invariant-run_parts-loop-part l =
    l.self.earliest
    ≡ earliest l.fn.self.earliest
    (all_crowded (map measured_run_part (take l.part-index l.part-items)))

abbrev pub invariant-next_exprs-loop-next : goal.invariant-next_exprs-loop-next
invariant-next_exprs-loop-next l =
    l.self.earliest
    ≡ earliest l.fn.self.earliest
    (all_crowded (map measured_next_expr (take l.next-index l.next-items)))

abbrev pub invariant-items-loop-entry : goal.invariant-items-loop-entry
invariant-items-loop-entry l =
    l.self.earliest
    ≡ earliest l.fn.self.earliest
    (all_crowded (map measured_block_item (take l.entry-index l.entry-items)))

abbrev pub invariant-alsos-loop-also : goal.invariant-alsos-loop-also
invariant-alsos-loop-also l =
    l.self.earliest
    ≡ earliest l.fn.self.earliest (all_crowded (map measured_also (take l.also-index l.also-items)))

abbrev pub invariant-elifs-loop-elif : goal.invariant-elifs-loop-elif
invariant-elifs-loop-elif l =
    l.self.earliest
    ≡ earliest l.fn.self.earliest (all_crowded (map measured_elif (take l.elif-index l.elif-items)))

abbrev pub invariant-next_generators-loop-next : goal.invariant-next_generators-loop-next
invariant-next_generators-loop-next l =
    l.self.earliest
    ≡ earliest l.fn.self.earliest
    (all_crowded (map measured_next_generator (take l.next-index l.next-items)))

abbrev pub invariant-case_clauses-loop-clause : goal.invariant-case_clauses-loop-clause
invariant-case_clauses-loop-clause l =
    l.self.earliest
    ≡ earliest l.fn.self.earliest
    (all_crowded (map measured_case_clause (take l.clause-index l.clause-items)))

abbrev pub invariant-type_clauses-loop-clause : goal.invariant-type_clauses-loop-clause
invariant-type_clauses-loop-clause l =
    l.self.earliest
    ≡ earliest l.fn.self.earliest
    (all_crowded (map measured_type_clause (take l.clause-index l.clause-items)))
