use Rattle.std.proofs.Common.{◌<◌, ℕ, IsTrue, get_or}
use Rattle.fort_types.specs.Table.{is_set}
use Rattle.fort_hier.proofs.walks.any_set.Given as goal

abbrev pub invariant-loop-b : goal.invariant-loop-b
invariant-loop-b l = (k : ℕ) → k < l.b-index → IsTrue (is_set l.rows (get_or l.list k 0) l.a) → ⊥
