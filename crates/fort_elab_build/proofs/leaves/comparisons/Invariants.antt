use Rattle.std.proofs.Common.{◌≡◌, ◌++◌, drop}
use Rattle.fort_elab_meaning.specs.Calls.{comparisons}
use Rattle.fort_elab_meaning.specs.Read.{given_of}
use Rattle.fort_elab_build.proofs.leaves.comparisons.Given as goal

abbrev pub invariant-loop-at : goal.invariant-loop-at
invariant-loop-at l =
    l.list ++ comparisons (given_of l.known) (drop l.at l.calls) (drop l.at l.sides)
    ≡ comparisons (given_of l.known) l.calls l.sides
