use Rattle.std.proofs.Common.{List, Option, [], ◌∷◌, ap}
use Rattle.std.specs.Prelude.{map}
use Rattle.fort_tree.specs.declared.expr.Expr.{Expr}
use Rattle.fort_tree.specs.declared.expr.NextExpr.{NextExpr}
use Rattle.fort_tree.specs.declared.expr.ExprList.{ExprList}
use Rattle.fort_form_meaning.specs.Formed.{formed_expr, formed_next_expr}
use Rattle.fort_form_tasks.specs.Tasks.{inside_list}
use Rattle.fort_form_tasks.proofs.Steps.{by, two_seen}
use Rattle.fort_form_tasks.proofs.units.see_in_list.Goals as goal

pub returns-in_ok-see_next_exprs : goal.returns-in_ok-see_next_exprs
returns-in_ok-see_next_exprs c =
    λ k. two_seen k _ _ (by k (λ
    (x : Expr). formed_expr k x ∷ []) c.get.ensures (c.in_ok-see.ensures k)) (by k (λ
    (l : List NextExpr). map (formed_next_expr k) l) c.as_slice.ensures
    (c.in_ok-see_next_exprs.ensures k)) (ap (λ
    (o : Option ExprList). inside_list k o) c.in-Some.is)
