use Rattle.fort_plain.specs.Within.{TakesOn}
use Rattle.fort_plain.proofs.Less.{left_next}
use Rattle.fort_plain.proofs.take.take.Given as goal

abbrev pub invariant-turns : goal.invariant-turns
invariant-turns l =
    TakesOn l.program l.fn.going.course.fuel l.ajar l.fn.going.course.picks l.pick l.next

abbrev pub decreases-turns : goal.decreases-turns
decreases-turns l = left_next l.next
