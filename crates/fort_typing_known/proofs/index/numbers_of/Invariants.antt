use Rattle.std.proofs.Common.{◌≤◌, length}
use Rattle.fort_typing_known.specs.Places.{is_itself}
use Rattle.fort_typing_known.proofs.Placed.{HasPlaces}
use Rattle.fort_typing_known.proofs.index.numbers_of.Given as goal

abbrev pub invariant-loop-number : goal.invariant-loop-number
invariant-loop-number l = (l.number ≤ length l.types)
    × HasPlaces is_itself l.types l.numbers l.number

abbrev pub decreases-loop-number : goal.decreases-loop-number
decreases-loop-number l = l.number
