use Rattle.std.proofs.Common.{◌≡◌, ◌<◌, ◌⊎◌, ℕ, IsTrue, get_or}
use Rattle.fort_types.specs.Table.{is_set}
use Rattle.fort_hier.proofs.walks.excludes_above.Given as goal

abbrev pub invariant-loop-n : goal.invariant-loop-n
invariant-loop-n l = (k : ℕ) → k < l.n-index
    → (get_or l.list k 0 ≡ l.any) ⊎ IsTrue (is_set l.rows l.a (get_or l.list k 0)) → ⊥
