use Rattle.std.proofs.Common.{◌≡◌, ◌+◌, drop}
use Rattle.fort_hier.specs.Numbers as numbers
use Rattle.fort_form_walk.proofs.spawning.number_of.Given as goal

abbrev pub invariant-loop-i : goal.invariant-loop-i
invariant-loop-i l =
    numbers.number_of l.names l.spelling ≡ l.i + numbers.number_of (drop l.i l.names) l.spelling
