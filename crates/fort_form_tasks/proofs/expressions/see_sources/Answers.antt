use Rattle.fort_form_tasks.specs.Tasks.{next_source}
use Rattle.fort_form_tasks.proofs.Steps.{one_more}
use Rattle.fort_form_tasks.proofs.expressions.see_sources.Goals as goal

pub loop-next-preserved : goal.loop-next-preserved
loop-next-preserved c =
    λ k. one_more k (next_source k) c.args.others.now c.loop-next.next-index c.next-item.result
    c.loop-next-test.true c.next-item.is (c.loop-next.invariant k) (c.in_ok-see_source.ensures k)
