use Rattle.std.proofs.Common.{◌≡◌, ℕ, [], sym, subst}
use Rattle.crossbeam_deque.specs.Tasks.{Pops, Finds}
use Rattle.crossbeam_deque.specs.Handles.{worker_view}
use Rattle.fort_deck.specs.Dealt.{Dealt}
use Rattle.fort_deck.specs.Views.{left}
use Rattle.fort_deck.specs.Calls.{Nexts}
use Rattle.fort_deck.proofs.Ends.{nexts, none_left}
use Rattle.fort_deck.proofs.held.Rest.next.Goals as goal

pub pop_as-requires-clause-lifo : goal.pop_as-requires-clause-lifo
pop_as-requires-clause-lifo c =
    let w = c.args.self.now.worker in
    λ _. subst (λ
    (port : ℕ). Pops Dealt port (worker_view w) (Nexts (worker_view w)))
    (sym c.args.self.now.alone.0.0) (nexts (worker_view w) c.args.self.now.alone.1)

pub pop_as-requires-clause-empty : goal.pop_as-requires-clause-empty
pop_as-requires-clause-empty c =
    let w = c.args.self.now.worker in
    subst (λ (port : ℕ). Finds Dealt port (worker_view w) (left (worker_view w) ≡ []))
    (sym c.args.self.now.alone.0.0) (none_left (worker_view w) c.args.self.now.alone.1)
