use Rattle.std.proofs.Common.{◌≡◌, ◌+◌, length}
use Rattle.fort_deck.specs.Decks.{left_of}
use Rattle.fort_hall_test.proofs.relay.drain.Given as goal

abbrev pub invariant-loop-job : goal.invariant-loop-job
invariant-loop-job l = l.left + length (left_of l.rest) ≡ length (left_of l.initial.rest)

abbrev pub decreases-loop-job : goal.decreases-loop-job
decreases-loop-job l = length (left_of l.rest)
