use Rattle.std.proofs.Common.{◌≡◌, ℕ, take}
use Rattle.fort_machine.specs.Cells.{joined}
use Rattle.fort_machine.specs.Effects.{made_from}
use Rattle.fort_store_effects.specs.Levels.{cells_of}
use Rattle.fort_store_effects.proofs.make.make_in_layer.Given as goal

abbrev pub invariant-loop-i : goal.invariant-loop-i
invariant-loop-i l =
    ((k : ℕ) → cells_of l.layer k
    ≡ joined (cells_of l.initial.layer k) (made_from l.«at» (take l.i l.values) k))
    × (l.layer.output ≡ l.initial.layer.output) × (l.layer.cost ≡ l.initial.layer.cost)
