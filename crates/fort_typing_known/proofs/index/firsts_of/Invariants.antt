use Rattle.std.proofs.Common.{◌≤◌, length}
use Rattle.fort_typing_known.specs.Places.{set_name}
use Rattle.fort_typing_known.proofs.Placed.{HasPlaces, HasNexts}
use Rattle.fort_typing_known.proofs.index.firsts_of.Given as goal

abbrev pub invariant-loop-number : goal.invariant-loop-number
invariant-loop-number l = (l.number ≤ length l.sets) × HasPlaces set_name l.sets l.firsts l.number
    × HasNexts l.sets l.nexts.items l.number

abbrev pub decreases-loop-number : goal.decreases-loop-number
decreases-loop-number l = l.number
