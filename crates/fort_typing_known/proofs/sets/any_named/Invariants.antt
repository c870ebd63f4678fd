use Rattle.std.proofs.Common.{◌≡◌}
use Rattle.fort_typing_known.specs.Sets.{any_set}
use Rattle.fort_typing_known.specs.Sets.{has_name}
use Rattle.fort_typing_known.proofs.Searched.{IsPlace, any_from, left_from}
use Rattle.fort_typing_known.proofs.sets.any_named.Given as goal

abbrev pub invariant-loop-next : goal.invariant-loop-next
invariant-loop-next l =
    (any_set (has_name l.name l.dotted) l.sets ≡ any_from (has_name l.name l.dotted) l.sets l.next)
    × IsPlace l.name l.sets 0 l.next

abbrev pub decreases-loop-next : goal.decreases-loop-next
decreases-loop-next l = left_from l.sets l.next
