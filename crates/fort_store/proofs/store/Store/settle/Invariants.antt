use Rattle.std.proofs.Common.{◌≡◌, ◌≤◌}
use Rattle.indexmap.specs.IndexMap.{index_map_len}
use Rattle.fort_store.specs.Held.{held, room}
use Rattle.fort_store.proofs.store.Store.settle.Given as goal

abbrev pub invariant-loop-self : goal.invariant-loop-self
invariant-loop-self l = (held l.self ≡ held l.initial.self) × (room l.initial.self ≤ room l.self)

abbrev pub decreases-loop-self : goal.decreases-loop-self
decreases-loop-self l = index_map_len l.self.recent
