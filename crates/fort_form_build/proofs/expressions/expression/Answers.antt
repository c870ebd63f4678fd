use Rattle.std.proofs.Common.{◌∷◌, ap, ◌∙◌}
use Rattle.fort_form.specs.declared.form.Form.{Form}
use Rattle.fort_tree.specs.declared.expr.Expr.{Expr, out-Expr}
use Rattle.fort_tree.specs.declared.expr.Head.{Head}
use Rattle.fort_form_meaning.specs.Formed.{formed_expr, formed_flat, formed_head}
use Rattle.fort_form_meaning.specs.Forming.{assignment}
use Rattle.fort_form_meaning.proofs.FormsFlats.{forms-Flat, forms-Assign, forms-Open, forms-OpenAssign}
use Rattle.fort_form_tasks.specs.Tasks.{expr_at, inside_head}
use Rattle.fort_form_tasks.proofs.Inside.{in-Flat, in-Assign, in-Open, in-OpenAssign}
use Rattle.fort_form_build.proofs.Giving.{by, named_as, one}
use Rattle.fort_form_build.proofs.expressions.expression.Goals as goal

pub returns-in_ok-take-in-Flat : goal.returns-in_ok-take-in-Flat
returns-in_ok-take-in-Flat g c =
    let k = g.L.Lookup.source c.args.lookup.now in
    named_as (one _ c.in_ok-take-in-Flat.ensures) (ap (λ
    (x : Expr). expr_at k (out-Expr x)) c.in-Flat.is
    ∙ in-Flat k _) (ap (formed_expr k) c.in-Flat.is ∙ forms-Flat k _)

pub returns-in_ok-assigned-in-Assign : goal.returns-in_ok-assigned-in-Assign
returns-in_ok-assigned-in-Assign g c =
    let k = g.L.Lookup.source c.args.lookup.now in
    named_as (c.in_ok-assigned-in-Assign.ensures (formed_flat k c.in-Assign.target)
    (formed_flat k c.in-Assign.value))
    (ap (λ (x : Expr). expr_at k (out-Expr x)) c.in-Assign.is
    ∙ in-Assign k _ _ _ _) (ap (formed_expr k) c.in-Assign.is ∙ forms-Assign k _ _ _ _)

pub returns-in_ok-behind_head-in-Open : goal.returns-in_ok-behind_head-in-Open
returns-in_ok-behind_head-in-Open g c =
    let k = g.L.Lookup.source c.args.lookup.now in
    let body = formed_flat k c.in-Open.body in
    named_as (by (λ (h : Head). body ∷ inside_head k h) (λ
    (h : Head). formed_head k h body) c.get.ensures
    (c.in_ok-behind_head-in-Open.ensures body))
    (ap (λ (x : Expr). expr_at k (out-Expr x)) c.in-Open.is
    ∙ in-Open k _ _) (ap (formed_expr k) c.in-Open.is ∙ forms-Open k _ _)

pub returns-in_ok-assigned_behind_head-in-OpenAssign : goal.returns-in_ok-assigned_behind_head-in-OpenAssign
returns-in_ok-assigned_behind_head-in-OpenAssign g c =
    let k = g.L.Lookup.source c.args.lookup.now in
    let target = formed_flat k c.in-OpenAssign.target in
    let value = formed_flat k c.in-OpenAssign.value in
    named_as (by (λ (h : Head). target ∷ value ∷ inside_head k h) (λ
    (h : Head). formed_head k h (assignment target c.in-OpenAssign.sign value))
    c.get-in-OpenAssign.ensures
    (c.in_ok-assigned_behind_head-in-OpenAssign.ensures target value))
    (ap (λ (x : Expr). expr_at k (out-Expr x)) c.in-OpenAssign.is
    ∙ in-OpenAssign k _ _ _ _) (ap (formed_expr k) c.in-OpenAssign.is
    ∙ forms-OpenAssign k _ _ _ _)
