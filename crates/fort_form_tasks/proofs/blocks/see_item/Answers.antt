use Rattle.std.proofs.Common.{[], ◌∷◌, ap, ◌∙◌}
use Rattle.fort_tree.specs.declared.expr.Expr.{Expr}
use Rattle.fort_tree.specs.declared.delimited.Item.{Item, out-Item}
use Rattle.fort_tree.specs.declared.declarations.Variable.{Variable, out-Variable}
use Rattle.fort_form_meaning.specs.Formed.{formed_expr}
use Rattle.fort_form_tasks.specs.Tasks.{item_at}
use Rattle.fort_form_tasks.proofs.Inside.{in-Variable, in-Names, in-Expr}
use Rattle.fort_form_tasks.proofs.Steps.{by, one_seen}
use Rattle.fort_form_tasks.proofs.blocks.see_item.Goals as goal

pub returns-in_ok-see-in-Variable : goal.returns-in_ok-see-in-Variable
returns-in_ok-see-in-Variable c =
    λ k. one_seen k (by k (λ
    (x : Variable). formed_expr k (out-Variable x).value ∷ []) c.get.ensures
    (c.in_ok-see-in-Variable.ensures k)) (ap (λ
    (x : Item). item_at k (out-Item x) ∷ []) c.in-Variable.is
    ∙ ap (λ u. u ∷ []) (in-Variable k _))

pub returns-in_ok-see-in-Names : goal.returns-in_ok-see-in-Names
returns-in_ok-see-in-Names c =
    λ k. one_seen k (by k (λ
    (x : Expr). formed_expr k x ∷ []) c.get-in-Names.ensures (c.in_ok-see-in-Names.ensures k))
    (ap (λ (x : Item). item_at k (out-Item x) ∷ []) c.in-Names.is
    ∙ ap (λ u. u ∷ []) (in-Names k _ _ _ _ _ _ _ _))

pub returns-in_ok-see-in-Expr : goal.returns-in_ok-see-in-Expr
returns-in_ok-see-in-Expr c =
    λ k. one_seen k (c.in_ok-see-in-Expr.ensures k) (ap (λ
    (x : Item). item_at k (out-Item x) ∷ []) c.in-Expr.is ∙ ap (λ u. u ∷ []) (in-Expr k _))
