use Rattle.std.proofs.Common.{◌≡◌, drop}
use Rattle.fort_machine.specs.Journals.{value_in}
use Rattle.fort_store.specs.Held.{held}
use Rattle.fort_store.proofs.store.Store.of.Given as goal

abbrev pub invariant-loop-i : goal.invariant-loop-i
invariant-loop-i l = held l.store ≡ value_in (drop l.i l.program.opening)
