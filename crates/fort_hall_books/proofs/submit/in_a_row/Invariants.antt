use Rattle.std.proofs.Common.{◌≡◌}
use Rattle.fort_hall_books.specs.Books.{picks_of}
use Rattle.fort_hall_books.proofs.submit.in_a_row.Given as goal

abbrev pub invariant-loop-entry : goal.invariant-loop-entry
invariant-loop-entry l = l.all ≡ picks_of l.yielded
