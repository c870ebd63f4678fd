use Rattle.std.proofs.Common.{[], ◌∷◌, ap}
use Rattle.fort_form_meaning.specs.Formed.{formed_next_expr}
use Rattle.fort_form_meaning.proofs.FormsFlats.{next_expr_forms}
use Rattle.fort_form_tasks.proofs.Steps.{one_seen, one_more}
use Rattle.fort_form_tasks.proofs.units.see_next_exprs.Goals as goal

pub loop-next-preserved : goal.loop-next-preserved
loop-next-preserved c =
    λ k. one_more k (formed_next_expr k) c.args.exprs.now c.loop-next.next-index c.next-item.result
    c.loop-next-test.true c.next-item.is (c.loop-next.invariant k)
    (one_seen k (c.in_ok-see.ensures k) (ap (λ u. u ∷ []) (next_expr_forms k c.next-item.result)))
