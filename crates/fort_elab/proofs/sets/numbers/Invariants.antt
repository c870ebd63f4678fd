use Rattle.std.proofs.Common.{◌≡◌, ◌+◌, ◌++◌, drop}
use Rattle.fort_elab_meaning.specs.Programs.{numbers}
use Rattle.fort_elab.proofs.sets.numbers.Given as goal

abbrev pub invariant-loop-member : goal.invariant-loop-member
invariant-loop-member l =
    (l.list ++ numbers l.next (drop l._member-index l.members) ≡ numbers l.first l.members)
    × (l.next ≡ l.first + l._member-index)
