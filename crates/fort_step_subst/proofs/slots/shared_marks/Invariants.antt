use Rattle.std.proofs.Common.{◌≡◌, take}
use Rattle.fort_step_subst.proofs.slots.shared_marks.Given as goal

abbrev pub invariant-loop-mark : goal.invariant-loop-mark
invariant-loop-mark l = l.all ≡ take l.mark-index l.mark-items
