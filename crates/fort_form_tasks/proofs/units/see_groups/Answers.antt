use Rattle.fort_form_tasks.specs.Tasks.{formed_group}
use Rattle.fort_form_tasks.proofs.Steps.{one_more}
use Rattle.fort_form_tasks.proofs.units.see_groups.Goals as goal

pub loop-part-preserved : goal.loop-part-preserved
loop-part-preserved c =
    λ k. one_more k (formed_group k c.args.flat.now) c.args.parts.now c.loop-part.part-index
    c.part-item.result c.loop-part-test.true c.part-item.is (c.loop-part.invariant k)
    (c.in_ok-see.ensures k)
