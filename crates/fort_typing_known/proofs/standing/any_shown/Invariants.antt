use Rattle.std.proofs.Common.{◌≡◌}
use Rattle.fort_typing_known.specs.Sets.{any_set}
use Rattle.fort_typing_known.specs.Names.{shows}
use Rattle.fort_typing_known.proofs.Searched.{IsPlace, any_from, left_from}
use Rattle.fort_typing_known.proofs.standing.any_shown.Given as goal

abbrev pub invariant-loop-next : goal.invariant-loop-next
invariant-loop-next l =
    (any_set (shows l.spelling) l.sets ≡ any_from (shows l.spelling) l.sets l.next)
    × IsPlace l.spelling l.sets 0 l.next

abbrev pub decreases-loop-next : goal.decreases-loop-next
decreases-loop-next l = left_from l.sets l.next
