-- How far a worker has counted.
use Rattle.std.specs.Prelude.{ℕ}
use Rattle.fort_hall_test.specs.declared.counters.Counter.{Counter}

-- the state of this worker when it has counted so far
abbrev pub counter : ℕ → ℕ → Counter
counter worker count = record { worker = worker; count = count }
