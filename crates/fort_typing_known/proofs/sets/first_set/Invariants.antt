use Rattle.std.proofs.Common.{◌≡◌}
use Rattle.fort_typing_known.specs.Sets.{first_set}
use Rattle.fort_typing_known.specs.Sets.{is_set_of}
use Rattle.fort_typing_known.proofs.Searched.{IsPlace, first_from, left_from}
use Rattle.fort_typing_known.proofs.sets.first_set.Given as goal

abbrev pub invariant-loop-next : goal.invariant-loop-next
invariant-loop-next l =
    (first_set (is_set_of l.name l.dotted l.width) l.sets
    ≡ first_from (is_set_of l.name l.dotted l.width) l.sets l.next)
    × IsPlace l.name l.sets 0 l.next

abbrev pub decreases-loop-next : goal.decreases-loop-next
decreases-loop-next l = left_from l.sets l.next
