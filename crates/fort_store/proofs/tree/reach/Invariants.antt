use Rattle.std.proofs.Common.{◌≡◌, ◌+◌, ◌-◌, vec_len}
use Rattle.fort_store.specs.Trees.{placed}
use Rattle.fort_store.proofs.tree.reach.Given as goal

abbrev pub invariant-loop-row : goal.invariant-loop-row
invariant-loop-row g l = placed l.row.items ≡ placed l.initial.row.items

abbrev pub decreases-loop-row : goal.decreases-loop-row
decreases-loop-row g l = l.at + 1 - vec_len l.row
