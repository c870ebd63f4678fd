use Rattle.crossbeam_deque.specs.Handles.{view}
use Rattle.fort_deck.proofs.Deals.{steals}
use Rattle.fort_deck.proofs.held.Deck.steal.Goals as goal

pub steal_as-requires-clause-takes : goal.steal_as-requires-clause-takes
steal_as-requires-clause-takes c =
    steals c.args.thief.now.pass.id (view c.args.thief.now.pass) c.args.thief.now.steals
