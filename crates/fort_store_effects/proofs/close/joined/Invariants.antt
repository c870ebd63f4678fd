use Rattle.std.proofs.Common.{◌≡◌, ℕ, ◌+◌}
use Rattle.indexmap.specs.IndexMap.{index_map_len}
use Rattle.fort_machine.specs.Cells as machine
use Rattle.fort_store_effects.specs.Levels.{cells_of}
use Rattle.fort_store_effects.specs.Closes.{closed_at}
use Rattle.fort_store_effects.proofs.close.joined.Given as goal

abbrev pub invariant-loop-at : goal.invariant-loop-at
invariant-loop-at l =
    ((k : ℕ) → machine.joined (cells_of l.whole k) (closed_at l.closing l.cells k)
    ≡ machine.joined (cells_of l.initial.whole k) (closed_at l.closing l.initial.cells k))
    × (l.whole.output ≡ l.initial.whole.output) × (l.whole.cost ≡ l.initial.whole.cost)
    × (index_map_len l.cells + l.«at» ≡ index_map_len l.initial.cells)
