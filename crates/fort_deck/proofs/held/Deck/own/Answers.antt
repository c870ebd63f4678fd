use Rattle.std.proofs.Common.{ℕ, sym, subst}
use Rattle.crossbeam_deque.specs.Tasks.{Pops, Finds}
use Rattle.crossbeam_deque.specs.Handles.{worker_view}
use Rattle.fort_deck.specs.Dealt.{Dealt}
use Rattle.fort_deck.specs.Calls.{Owns, AllStolen}
use Rattle.fort_deck.proofs.Deals.{owns, all_stolen}
use Rattle.fort_deck.proofs.held.Deck.own.Goals as goal

pub pop_as-requires-clause-lifo : goal.pop_as-requires-clause-lifo
pop_as-requires-clause-lifo c =
    let w = c.args.owner.now.worker in
    λ _. subst (λ
    (port : ℕ). Pops Dealt port (worker_view w) (Owns (worker_view w)))
    (sym c.args.owner.now.rests.0.0) (owns (worker_view w))

pub pop_as-requires-clause-empty : goal.pop_as-requires-clause-empty
pop_as-requires-clause-empty c =
    let w = c.args.owner.now.worker in
    subst (λ (port : ℕ). Finds Dealt port (worker_view w) (AllStolen (worker_view w)))
    (sym c.args.owner.now.rests.0.0) (all_stolen (worker_view w))
