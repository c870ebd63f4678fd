use Rattle.std.proofs.Common.{◌≡◌, ℕ, take}
use Rattle.fort_machine.specs.Cells.{left_at}
use Rattle.fort_machine.specs.Effects.{made_from}
use Rattle.fort_store.specs.Held.{held}
use Rattle.fort_store_effects.proofs.make.make_in_store.Given as goal

abbrev pub invariant-loop-i : goal.invariant-loop-i
invariant-loop-i l = (k : ℕ)
    → held l.store k ≡ left_at (made_from l.«at» (take l.i l.values) k) (held l.initial.store k)
