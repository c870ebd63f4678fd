use Rattle.std.proofs.Common.{ℕ, [], ◌∷◌, sym, subst}
use Rattle.crossbeam_deque.specs.Tasks.{Pushes}
use Rattle.crossbeam_deque.specs.Handles.{worker_view}
use Rattle.fort_deck.specs.Dealt.{Dealt}
use Rattle.fort_deck.specs.Calls.{Puts}
use Rattle.fort_deck.proofs.Deals.{puts}
use Rattle.fort_deck.proofs.held.Deck.put.Goals as goal

pub push_as-requires-clause-pushes : goal.push_as-requires-clause-pushes
push_as-requires-clause-pushes c =
    let w = c.args.owner.now.worker in
    let jobs = c.args.job ∷ [] in
    subst (λ (port : ℕ). Pushes Dealt port (worker_view w) jobs (Puts (worker_view w) jobs))
    (sym c.args.owner.now.rests.0.0) (puts (worker_view w) jobs)
