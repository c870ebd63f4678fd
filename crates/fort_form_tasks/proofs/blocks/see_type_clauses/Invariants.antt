use Rattle.std.proofs.Common.{take}
use Rattle.std.specs.Prelude.{map}
use Rattle.fort_form_meaning.specs.Source.{Source}
use Rattle.fort_form_tasks.specs.Tasks.{Sees, type_clause_value}
use Rattle.fort_form_tasks.proofs.blocks.see_type_clauses.Given as goal

abbrev pub invariant-loop-clause : goal.invariant-loop-clause
invariant-loop-clause l = (k : Source)
    → Sees k (map (type_clause_value k) (take l.clause-index l.clauses)) l.initial.tasks l.tasks
