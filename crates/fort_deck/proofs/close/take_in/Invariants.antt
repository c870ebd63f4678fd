use Rattle.std.proofs.Common.{◌≡◌, ◌++◌, length}
use Rattle.std.specs.List.{All}
use Rattle.crossbeam_deque.specs.Handles.{worker_view, SameWorker}
use Rattle.fort_deck.specs.Resting.{TakesIn}
use Rattle.fort_deck.specs.Decks.{IsThiefOf, hands_of}
use Rattle.fort_deck.proofs.close.take_in.Given as goal

abbrev pub invariant-loop-thief : goal.invariant-loop-thief
invariant-loop-thief l = record {
  same : SameWorker l.initial.worker l.worker;
  taken : TakesIn (worker_view l.initial.worker) (length l.thieves) (worker_view l.worker).hands
      (worker_view l.worker);
  hands : hands_of l.thieves ++ (worker_view l.worker).hands ≡ hands_of l.initial.thieves;
  theirs : All (λ thief. IsThiefOf l.deck thief) l.thieves;
}

abbrev pub decreases-loop-thief : goal.decreases-loop-thief
decreases-loop-thief l = length l.thieves
