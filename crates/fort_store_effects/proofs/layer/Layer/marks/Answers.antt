use Rattle.fort_store_effects.proofs.InOrder.{marks_read}
use Rattle.fort_store_effects.proofs.layer.Layer.marks.Goals as goal

pub returns-clause-read : goal.returns-clause-read
returns-clause-read c =
    marks_read c.args.self.now c.sort_keys.new.self c.in_ok-marks.marks
    c.sort_keys.ensures.reordered c.in_ok-sort_keys.ensures.sorted c.sort_keys.ensures.unique
    c.in_ok-marks.ensures
