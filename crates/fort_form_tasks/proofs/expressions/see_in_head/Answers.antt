use Rattle.std.proofs.Common.{ap, ◌∙◌}
use Rattle.fort_tree.specs.declared.expr.Head.{Head, out-Head}
use Rattle.fort_form_tasks.specs.Tasks.{head_at}
use Rattle.fort_form_tasks.proofs.Inside.{in-Atomic, in-Tryatomic, in-Throw, in-Spawn, in-Fn, in-Big}
use Rattle.fort_form_tasks.proofs.Steps.{none_seen, one_seen}
use Rattle.fort_form_tasks.proofs.expressions.see_in_head.Goals as goal

pub returns-in-Atomic : goal.returns-in-Atomic
returns-in-Atomic c =
    λ k. none_seen k (ap (λ (x : Head). head_at k (out-Head x)) c.in-Atomic.is ∙ in-Atomic k _)

pub returns-in-Tryatomic : goal.returns-in-Tryatomic
returns-in-Tryatomic c =
    λ k. none_seen k (ap (λ
    (x : Head). head_at k (out-Head x)) c.in-Tryatomic.is ∙ in-Tryatomic k _)

pub returns-in-Throw : goal.returns-in-Throw
returns-in-Throw c =
    λ k. none_seen k (ap (λ (x : Head). head_at k (out-Head x)) c.in-Throw.is ∙ in-Throw k _)

pub returns-in-Spawn : goal.returns-in-Spawn
returns-in-Spawn c =
    λ k. none_seen k (ap (λ (x : Head). head_at k (out-Head x)) c.in-Spawn.is ∙ in-Spawn k _)

pub returns-in-Fn : goal.returns-in-Fn
returns-in-Fn c =
    λ k. none_seen k (ap (λ (x : Head). head_at k (out-Head x)) c.in-Fn.is ∙ in-Fn k _ _ _ _ _)

pub returns-in_ok-see_source-in-Big : goal.returns-in_ok-see_source-in-Big
returns-in_ok-see_source-in-Big c =
    λ k. one_seen k (c.in_ok-see_source-in-Big.ensures k) (ap (λ
    (x : Head). head_at k (out-Head x)) c.in-Big.is ∙ in-Big k _ _ _ _)
