use Rattle.std.proofs.Common.{◌<◌, ℕ, IsTrue}
use Rattle.fort_types.specs.Table.{is_set}
use Rattle.fort_over_pair.proofs.order.some_both.Given as goal

abbrev pub invariant-loop-m : goal.invariant-loop-m
invariant-loop-m l = (k : ℕ) → k < l.m → IsTrue (is_set l.rows k l.a) × IsTrue (is_set l.rows k l.b)
    → ⊥
