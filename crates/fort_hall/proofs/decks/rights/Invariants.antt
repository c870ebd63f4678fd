use Rattle.std.proofs.Common.{◌≡◌, length}
use Rattle.fort_hall.proofs.decks.rights.Given as goal

abbrev pub invariant-loop-i : goal.invariant-loop-i
invariant-loop-i l = record {
  long : length l.rows.items ≡ l.i;
  same : length l.owns.items ≡ length l.initial.owns.items;
}
