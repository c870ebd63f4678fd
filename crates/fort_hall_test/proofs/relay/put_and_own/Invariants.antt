use Rattle.std.proofs.Common.{◌≡◌, ◌≤◌, length}
use Rattle.fort_deck.specs.Decks.{IsOwnerOf, put_by, owned_by, thieves_of}
use Rattle.fort_hall_test.proofs.relay.put_and_own.Given as goal

abbrev pub invariant-loop-i : goal.invariant-loop-i
invariant-loop-i l = record {
  owner : IsOwnerOf l.deck l.owner;
  thieves : thieves_of l.owner ≡ thieves_of l.initial.owner;
  put_is : length (put_by l.owner) ≡ l.put;
  owned_is : length (owned_by l.owner) ≡ l.owned;
  put_few : l.put ≤ l.i;
  owned_few : l.owned ≤ l.i;
}
