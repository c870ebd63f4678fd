use Rattle.std.proofs.Common.{◌≡◌, ◌+◌, drop}
use Rattle.fort_spawn_prelude.specs.Numbers as numbers
use Rattle.fort_spawn_prelude.proofs.numbers.number_of.Given as goal

abbrev pub invariant-loop-i : goal.invariant-loop-i
invariant-loop-i l =
    numbers.number_of l.names l.spelling ≡ l.i + numbers.number_of (drop l.i l.names) l.spelling
