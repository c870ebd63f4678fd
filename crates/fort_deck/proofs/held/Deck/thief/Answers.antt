use Rattle.std.proofs.Common.{ℕ, sym, subst}
use Rattle.crossbeam_deque.specs.Tasks.{Forks}
use Rattle.crossbeam_deque.specs.Handles.{worker_view}
use Rattle.fort_deck.specs.Dealt.{Dealt}
use Rattle.fort_deck.specs.Views.{one_more, newcomer}
use Rattle.fort_deck.proofs.Deals.{forks}
use Rattle.fort_deck.proofs.held.Deck.thief.Goals as goal

pub another-pass-requires : goal.another-pass-requires
another-pass-requires c =
    let w = c.args.owner.now.worker in
    subst (λ (port : ℕ). Forks Dealt port (worker_view w) (one_more (worker_view w))
    (newcomer (worker_view w))) (sym c.args.owner.now.rests.0.0) (forks (worker_view w))
