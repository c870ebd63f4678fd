use Rattle.fort_deck.proofs.Deals.{begins}
use Rattle.fort_deck.proofs.held.Deck.new.Goals as goal

pub lifo_as-requires : goal.lifo_as-requires
lifo_as-requires c = begins
