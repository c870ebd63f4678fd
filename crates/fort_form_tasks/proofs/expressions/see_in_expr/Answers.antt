use Rattle.std.proofs.Common.{[], ◌∷◌, ap, ◌∙◌}
use Rattle.fort_tree.specs.declared.expr.Expr.{Expr, out-Expr}
use Rattle.fort_tree.specs.declared.expr.Head.{Head}
use Rattle.fort_tree.specs.declared.expr.Flat.{Flat}
use Rattle.fort_form_meaning.specs.Formed.{formed_flat}
use Rattle.fort_form_tasks.specs.Tasks.{expr_at, inside_head}
use Rattle.fort_form_tasks.proofs.Inside.{in-Flat, in-Assign, in-Open, in-OpenAssign}
use Rattle.fort_form_tasks.proofs.Steps.{by, one_seen, two_seen, three_seen}
use Rattle.fort_form_tasks.proofs.expressions.see_in_expr.Goals as goal

pub returns-in_ok-see-in-Flat : goal.returns-in_ok-see-in-Flat
returns-in_ok-see-in-Flat c =
    λ k. one_seen k (c.in_ok-see-in-Flat.ensures k) (ap (λ
    (x : Expr). expr_at k (out-Expr x)) c.in-Flat.is ∙ in-Flat k _)

pub returns-in_ok-see_in_maybe_head-in-Assign : goal.returns-in_ok-see_in_maybe_head-in-Assign
returns-in_ok-see_in_maybe_head-in-Assign c =
    λ k. three_seen k _ _ _ (by k (λ
    (x : Flat). formed_flat k x ∷ []) c.get.ensures (c.in_ok-see-in-Assign.ensures k)) (by k (λ
    (x : Flat). formed_flat k x ∷ []) c.get-in-Assign.ensures
    (c.in_ok-see-in-Assign-2.ensures k)) (c.in_ok-see_in_maybe_head-in-Assign.ensures k) (ap (λ
    (x : Expr). expr_at k (out-Expr x)) c.in-Assign.is ∙ in-Assign k _ _ _ _)

pub returns-in_ok-see_in_head-in-Open : goal.returns-in_ok-see_in_head-in-Open
returns-in_ok-see_in_head-in-Open c =
    λ k. two_seen k _ _ (by k (λ
    (x : Flat). formed_flat k x ∷ []) c.get-in-Open.ensures (c.in_ok-see-in-Open.ensures k))
    (by k (λ (x : Head). inside_head k x) c.get-in-Open-2.ensures
    (c.in_ok-see_in_head-in-Open.ensures k)) (ap (λ
    (x : Expr). expr_at k (out-Expr x)) c.in-Open.is ∙ in-Open k _ _)

pub returns-in_ok-see_in_head-in-OpenAssign : goal.returns-in_ok-see_in_head-in-OpenAssign
returns-in_ok-see_in_head-in-OpenAssign c =
    λ k. three_seen k _ _ _ (by k (λ
    (x : Flat). formed_flat k x ∷ []) c.get-in-OpenAssign.ensures
    (c.in_ok-see-in-OpenAssign.ensures k)) (by k (λ
    (x : Flat). formed_flat k x ∷ []) c.get-in-OpenAssign-2.ensures
    (c.in_ok-see-in-OpenAssign-2.ensures k)) (by k (λ
    (x : Head). inside_head k x) c.get-in-OpenAssign-3.ensures
    (c.in_ok-see_in_head-in-OpenAssign.ensures k)) (ap (λ
    (x : Expr). expr_at k (out-Expr x)) c.in-OpenAssign.is ∙ in-OpenAssign k _ _ _ _)
