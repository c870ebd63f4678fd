use Rattle.std.proofs.Common.{◌≡◌, take}
use Rattle.fort_store_effects.specs.Calls.{reads_of}
use Rattle.fort_store_effects.proofs.layer.Layer.marks_in_order.Given as goal

abbrev pub invariant-loop-i : goal.invariant-loop-i
invariant-loop-i l = l.marks ≡ reads_of (take l.i l.self.cells.entries)
