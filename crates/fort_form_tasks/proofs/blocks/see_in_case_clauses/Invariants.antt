use Rattle.std.proofs.Common.{take}
use Rattle.std.specs.List.{flat_map}
use Rattle.fort_form_meaning.specs.Source.{Source}
use Rattle.fort_form_tasks.specs.Tasks.{Sees, inside_case_clause}
use Rattle.fort_form_tasks.proofs.blocks.see_in_case_clauses.Given as goal

abbrev pub invariant-loop-clause : goal.invariant-loop-clause
invariant-loop-clause l = (k : Source)
    → Sees k (flat_map (inside_case_clause k) (take l.clause-index l.clauses)) l.initial.tasks
    l.tasks
