use Rattle.fort_form_meaning.specs.Formed.{formed_type_clause}
use Rattle.fort_form_tasks.specs.Tasks.{type_clause_value}
use Rattle.fort_form_build.proofs.Giving.{Made}
use Rattle.fort_form_build.proofs.blocks.type_branches.Given as goal

abbrev pub invariant-loop-clause : goal.invariant-loop-clause
invariant-loop-clause g l =
    Made (type_clause_value (g.L.Lookup.source l.lookup))
    (formed_type_clause (g.L.Lookup.source l.lookup)) l.clauses l.clause-index l.initial.forms
    l.forms l.made
