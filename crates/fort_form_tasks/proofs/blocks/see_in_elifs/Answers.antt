use Rattle.fort_form_tasks.specs.Tasks.{inside_elif}
use Rattle.fort_form_tasks.proofs.Steps.{some_more}
use Rattle.fort_form_tasks.proofs.blocks.see_in_elifs.Goals as goal

pub loop-elif-preserved : goal.loop-elif-preserved
loop-elif-preserved c =
    λ k. some_more k (inside_elif k) c.args.elifs.now c.loop-elif.elif-index c.elif-item.result
    c.loop-elif-test.true c.elif-item.is (c.loop-elif.invariant k) (c.in_ok-see_in_elif.ensures k)
