use Rattle.fort_form_meaning.specs.Formed.{formed_run_part}
use Rattle.fort_form_tasks.proofs.Steps.{one_more}
use Rattle.fort_form_tasks.proofs.units.see_run_parts.Goals as goal

pub loop-part-preserved : goal.loop-part-preserved
loop-part-preserved c =
    λ k. one_more k (formed_run_part k) c.args.parts.now c.loop-part.part-index c.part-item.result
    c.loop-part-test.true c.part-item.is (c.loop-part.invariant k) (c.in_ok-see_run_part.ensures k)
