use Rattle.std.proofs.Common.{◌≡◌, ℕ, ◌+◌, ◌≤◌}
use Rattle.indexmap.specs.IndexMap.{index_map_len, spare}
use Rattle.fort_machine.specs.Cells as machine
use Rattle.fort_store_effects.specs.Levels.{cells_of}
use Rattle.fort_store_effects.specs.Closes.{closed_at}
use Rattle.fort_store_effects.specs.declared.cell.Closing.TheVariants.{Completed}
use Rattle.fort_store_effects.proofs.append.join_all.Given as goal

abbrev pub invariant-loop-at : goal.invariant-loop-at
invariant-loop-at l =
    ((k : ℕ) → machine.joined (cells_of l.whole k) (closed_at Completed l.cells k)
    ≡ machine.joined (cells_of l.initial.whole k) (closed_at Completed l.initial.cells k))
    × (l.whole.output ≡ l.initial.whole.output) × (l.whole.cost ≡ l.initial.whole.cost)
    × (index_map_len l.cells + l.«at» ≡ index_map_len l.initial.cells)
    × (index_map_len l.cells ≤ spare l.whole.cells)
