use Rattle.std.proofs.Common.{◌≡◌}
use Rattle.fort_store.specs.Held.{held, settled}
use Rattle.fort_store.proofs.Again.{from_place}
use Rattle.fort_store.proofs.Shares.{over}
use Rattle.fort_store.proofs.store.Store.again.Given as goal

abbrev pub invariant-loop-i : goal.invariant-loop-i
invariant-loop-i l =
    held l.store ≡ over (from_place l.self.recent.entries l.i) (settled l.self.trees.items)
