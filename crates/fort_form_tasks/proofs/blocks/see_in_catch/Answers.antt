use Rattle.std.proofs.Common.{List, Option, ap}
use Rattle.std.specs.Prelude.{map}
use Rattle.fort_tree.specs.declared.delimited.TypeClause.{TypeClause}
use Rattle.fort_tree.specs.declared.delimited.Catch.{Catch}
use Rattle.fort_form_tasks.specs.Tasks.{type_clause_value, inside_catch}
use Rattle.fort_form_tasks.proofs.Steps.{by, one_seen}
use Rattle.fort_form_tasks.proofs.blocks.see_in_catch.Goals as goal

pub returns-in_ok-see_type_clauses : goal.returns-in_ok-see_type_clauses
returns-in_ok-see_type_clauses c =
    λ k. one_seen k (by k (λ
    (l : List TypeClause). map (type_clause_value k) l) c.as_slice.ensures
    (c.in_ok-see_type_clauses.ensures k)) (ap (λ
    (o : Option Catch). inside_catch k o) c.in-Some.is)
