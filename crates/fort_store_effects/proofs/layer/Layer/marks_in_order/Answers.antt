use Rattle.fort_store_effects.proofs.InOrder.{reads_at}
use Rattle.fort_store_effects.proofs.layer.Layer.marks_in_order.Goals as goal

pub loop-i-preserved : goal.loop-i-preserved
loop-i-preserved c =
    reads_at c.args.self.now.cells.entries c.loop-i.i c.loop-i.marks c.note_at.new.marks
    c.loop-i.invariant c.in_ok-note_at.ensures
