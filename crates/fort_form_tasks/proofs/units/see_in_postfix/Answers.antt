use Rattle.std.proofs.Common.{[], ◌∷◌, ap, ◌∙◌}
use Rattle.fort_tree.specs.declared.expr.Expr.{Expr}
use Rattle.fort_tree.specs.declared.expr.Postfix.{Postfix, out-Postfix}
use Rattle.fort_form_meaning.specs.Formed.{formed_expr}
use Rattle.fort_form_tasks.specs.Tasks.{postfix_at}
use Rattle.fort_form_tasks.proofs.Inside.{in-Subscript, in-Power, in-Field, in-Call}
use Rattle.fort_form_tasks.proofs.Steps.{by, none_seen, one_seen}
use Rattle.fort_form_tasks.proofs.units.see_in_postfix.Goals as goal

pub returns-in_ok-see-in-Subscript : goal.returns-in_ok-see-in-Subscript
returns-in_ok-see-in-Subscript c =
    λ k. one_seen k (by k (λ
    (x : Expr). formed_expr k x ∷ []) c.get.ensures (c.in_ok-see-in-Subscript.ensures k)) (ap (λ
    (x : Postfix). postfix_at k (out-Postfix x)) c.in-Subscript.is ∙ in-Subscript k _ _ _)

pub returns-in_ok-see-in-Power : goal.returns-in_ok-see-in-Power
returns-in_ok-see-in-Power c =
    λ k. one_seen k (c.in_ok-see-in-Power.ensures k) (ap (λ
    (x : Postfix). postfix_at k (out-Postfix x)) c.in-Power.is ∙ in-Power k _ _)

pub returns-in-Field : goal.returns-in-Field
returns-in-Field c =
    λ k. none_seen k (ap (λ
    (x : Postfix). postfix_at k (out-Postfix x)) c.in-Field.is ∙ in-Field k _ _)

pub returns-in_ok-see_in_list-in-Call : goal.returns-in_ok-see_in_list-in-Call
returns-in_ok-see_in_list-in-Call c =
    λ k. one_seen k (c.in_ok-see_in_list-in-Call.ensures k) (ap (λ
    (x : Postfix). postfix_at k (out-Postfix x)) c.in-Call.is ∙ in-Call k _ _ _ _ _)
