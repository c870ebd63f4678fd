use Rattle.std.proofs.Common.{◌≡◌, take}
use Rattle.fort_store.proofs.tree.share_values.Given as goal

abbrev pub invariant-loop-place : goal.invariant-loop-place
invariant-loop-place l = l.all.items ≡ take l.place-index l.place-items
