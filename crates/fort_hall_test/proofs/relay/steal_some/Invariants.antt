use Rattle.std.proofs.Common.{◌≡◌, ◌≤◌, length}
use Rattle.fort_deck.specs.Decks.{IsThiefOf, stolen_by, number_of}
use Rattle.fort_hall_test.proofs.relay.steal_some.Given as goal

abbrev pub invariant-loop-i : goal.invariant-loop-i
invariant-loop-i l = record {
  thief : IsThiefOf l.deck l.thief;
  number : number_of l.thief ≡ number_of l.initial.thief;
  stolen_is : length (stolen_by l.thief) ≡ l.stolen;
  few : l.stolen ≤ l._i;
}
