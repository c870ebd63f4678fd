use Rattle.fort_store.proofs.Rows.{longer}
use Rattle.fort_store.proofs.tree.reach.Goals as goal

pub loop-row-preserved : goal.loop-row-preserved
loop-row-preserved g c =
    longer c.loop-row.row.items _ _ c.in_ok-push.ensures.items c.loop-row.invariant
