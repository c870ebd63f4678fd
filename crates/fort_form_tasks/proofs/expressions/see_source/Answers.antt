use Rattle.std.proofs.Common.{[], ◌∷◌, ap, ◌∙◌}
use Rattle.fort_tree.specs.declared.expr.Generator.{Generator, out-Generator}
use Rattle.fort_form_tasks.specs.Tasks.{source_at}
use Rattle.fort_form_tasks.proofs.Inside.{in-Parallel, in-Sequential}
use Rattle.fort_form_tasks.proofs.Steps.{one_seen}
use Rattle.fort_form_tasks.proofs.expressions.see_source.Goals as goal

pub returns-in_ok-see-in-Parallel : goal.returns-in_ok-see-in-Parallel
returns-in_ok-see-in-Parallel c =
    λ k. one_seen k (c.in_ok-see-in-Parallel.ensures k) (ap (λ
    (x : Generator). source_at k (out-Generator x) ∷ []) c.in-Parallel.is
    ∙ ap (λ u. u ∷ []) (in-Parallel k _ _ _))

pub returns-in_ok-see-in-Sequential : goal.returns-in_ok-see-in-Sequential
returns-in_ok-see-in-Sequential c =
    λ k. one_seen k (c.in_ok-see-in-Sequential.ensures k) (ap (λ
    (x : Generator). source_at k (out-Generator x) ∷ []) c.in-Sequential.is
    ∙ ap (λ u. u ∷ []) (in-Sequential k _ _ _ _ _ _))
