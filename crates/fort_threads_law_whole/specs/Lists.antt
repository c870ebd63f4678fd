-- Chapter "The machine with threads": threads by their numbers.
use Rattle.std.specs.Prelude.{◌≡◌, ℕ, List, Some, slice_get}
use Rattle.fort_threads.specs.Threads.{Thread}

-- A thread has a number.
abbrev pub IsAt : ℕ → Thread → List Thread → Type 0
IsAt number u now = slice_get now number ≡ Some u
