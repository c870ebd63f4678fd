use Rattle.std.proofs.Common.{Option, [], ◌∷◌, ap}
use Rattle.fort_tree.specs.declared.delimited.ElseClause.{ElseClause, out-ElseClause}
use Rattle.fort_form_meaning.specs.Formed.{formed_expr}
use Rattle.fort_form_tasks.specs.Tasks.{inside_else_clause}
use Rattle.fort_form_tasks.proofs.Steps.{by, one_seen}
use Rattle.fort_form_tasks.proofs.blocks.see_else_clause.Goals as goal

pub returns-in_ok-see : goal.returns-in_ok-see
returns-in_ok-see c =
    λ k. one_seen k (by k (λ
    (x : ElseClause). formed_expr k (out-ElseClause x).value ∷ []) c.get.ensures
    (c.in_ok-see.ensures k)) (ap (λ
    (o : Option ElseClause). inside_else_clause k o) c.in-Some.is)
