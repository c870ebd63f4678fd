use Rattle.std.proofs.Common.{◌≡◌, ◌++◌, take}
use Rattle.std.specs.Prelude.{map}
use Rattle.fort_tree_atoms.specs.Gathered.{all_atoms}
use Rattle.fort_tree_atoms.specs.AtomsOf.{atoms_of_also, atoms_of_block_item, atoms_of_case_clause, atoms_of_elif, atoms_of_flat_part, atoms_of_next_expr, atoms_of_next_generator, atoms_of_run_part, atoms_of_type_clause}
use Rattle.fort_tree_atoms.proofs.+tree.Given as goal

abbrev pub invariant-exprs::add_flat_parts-loop-part : goal.invariant-exprs::add_flat_parts-loop-part
invariant-exprs::add_flat_parts-loop-part l =
    l.names ≡ l.fn.names ++ all_atoms (map atoms_of_flat_part (take l.part-index l.parts))

abbrev pub invariant-exprs::add_run_parts-loop-part : goal.invariant-exprs::add_run_parts-loop-part
invariant-exprs::add_run_parts-loop-part l =
    l.names ≡ l.fn.names ++ all_atoms (map atoms_of_run_part (take l.part-index l.parts))

abbrev pub invariant-exprs::add_next_exprs-loop-next : goal.invariant-exprs::add_next_exprs-loop-next
invariant-exprs::add_next_exprs-loop-next l =
    l.names ≡ l.fn.names ++ all_atoms (map atoms_of_next_expr (take l.next-index l.exprs))

abbrev pub invariant-blocks::add_block-loop-entry : goal.invariant-blocks::add_block-loop-entry
invariant-blocks::add_block-loop-entry l =
    l.names ≡ l.fn.names ++ all_atoms (map atoms_of_block_item (take l.entry-index l.block))

abbrev pub invariant-blocks::add_alsos-loop-also : goal.invariant-blocks::add_alsos-loop-also
invariant-blocks::add_alsos-loop-also l =
    l.names ≡ l.fn.names ++ all_atoms (map atoms_of_also (take l.also-index l.others))

abbrev pub invariant-blocks::add_elifs-loop-elif : goal.invariant-blocks::add_elifs-loop-elif
invariant-blocks::add_elifs-loop-elif l =
    l.names ≡ l.fn.names ++ all_atoms (map atoms_of_elif (take l.elif-index l.elifs))

abbrev pub invariant-blocks::add_next_generators-loop-next : goal.invariant-blocks::add_next_generators-loop-next
invariant-blocks::add_next_generators-loop-next l =
    l.names ≡ l.fn.names
    ++ all_atoms (map atoms_of_next_generator (take l.next-index l.others))

abbrev pub invariant-blocks::add_case_clauses-loop-clause : goal.invariant-blocks::add_case_clauses-loop-clause
invariant-blocks::add_case_clauses-loop-clause l =
    l.names ≡ l.fn.names
    ++ all_atoms (map atoms_of_case_clause (take l.clause-index l.clauses))

abbrev pub invariant-blocks::add_type_clauses-loop-clause : goal.invariant-blocks::add_type_clauses-loop-clause
invariant-blocks::add_type_clauses-loop-clause l =
    l.names ≡ l.fn.names
    ++ all_atoms (map atoms_of_type_clause (take l.clause-index l.clauses))
