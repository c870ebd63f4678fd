use Rattle.std.proofs.Common.{◌≡◌, ℕ, ◌<◌, length, slice_index_or}
use Rattle.fort_hall_test.specs.declared.counters.Counter.{Counter}
use Rattle.fort_hall_test.specs.Counts.{counter}
use Rattle.fort_hall_test.proofs.counters.begin.Given as goal

abbrev pub invariant-loop-i : goal.invariant-loop-i
invariant-loop-i l = record {
  same : length l.states ≡ length l.initial.states;
  begun : (k : ℕ) (d : Counter) → k < l.i → slice_index_or l.states k d ≡ counter k 0;
}
