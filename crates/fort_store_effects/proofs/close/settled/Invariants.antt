use Rattle.std.proofs.Common.{◌≡◌, ℕ, ◌+◌}
use Rattle.indexmap.specs.IndexMap.{index_map_len}
use Rattle.fort_machine.specs.Cells.{left_at}
use Rattle.fort_store.specs.Held.{held}
use Rattle.fort_store_effects.specs.Closes.{closed_at, SuitsAll}
use Rattle.fort_store_effects.proofs.close.settled.Given as goal

abbrev pub invariant-loop-at : goal.invariant-loop-at
invariant-loop-at l =
    ((k : ℕ) → left_at (closed_at l.closing l.cells k) (held l.store k)
    ≡ left_at (closed_at l.closing l.initial.cells k) (held l.initial.store k))
    × SuitsAll l.closing l.store l.cells
    × (index_map_len l.cells + l.«at» ≡ index_map_len l.initial.cells)
