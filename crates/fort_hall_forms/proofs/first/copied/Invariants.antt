use Rattle.std.proofs.Common.{◌≡◌, take}
use Rattle.fort_hall_forms.proofs.first.copied.Given as goal

abbrev pub invariant-loop-mark : goal.invariant-loop-mark
invariant-loop-mark l = l.copy ≡ take l.mark-index l.mark-items
