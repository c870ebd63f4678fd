use Rattle.fort_form_tasks.specs.Tasks.{item_value}
use Rattle.fort_form_tasks.proofs.Steps.{one_more}
use Rattle.fort_form_tasks.proofs.blocks.see_items.Goals as goal

pub loop-entry-preserved : goal.loop-entry-preserved
loop-entry-preserved c =
    λ k. one_more k (item_value k) c.args.items.now c.loop-entry.entry-index c.entry-item.result
    c.loop-entry-test.true c.entry-item.is (c.loop-entry.invariant k) (c.in_ok-see_item.ensures k)
