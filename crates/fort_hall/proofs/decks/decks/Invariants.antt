use Rattle.std.proofs.Common.{◌≡◌, length}
use Rattle.fort_hall.proofs.decks.decks.Given as goal

abbrev pub invariant-loop-i : goal.invariant-loop-i
invariant-loop-i l = record {
  long : length l.owns.items ≡ l._i;
}
