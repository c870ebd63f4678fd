use Rattle.std.proofs.Common.{◌≡◌, ℕ, ◌++◌, ◌∙◌, sym, ap, subst}
use Rattle.std.specs.List.{All}
use Rattle.crossbeam_deque.specs.Tasks.{Learns}
use Rattle.crossbeam_deque.specs.Handles.{worker_view}
use Rattle.fort_deck.specs.declared.view.Hand.{Hand}
use Rattle.fort_deck.specs.declared.view.View.{View}
use Rattle.fort_deck.specs.Thefts.{jobs_of, jobs_by}
use Rattle.fort_deck.specs.Views.{left}
use Rattle.fort_deck.specs.Dealt.{Dealt}
use Rattle.fort_deck.specs.Calls.{Settles}
use Rattle.fort_deck.proofs.Ends.{settles}
use Rattle.fort_deck.proofs.TakenIn.{of_thieves}
use Rattle.fort_deck.proofs.held.Deck.close.Goals as goal

pub len_as-requires : goal.len_as-requires
len_as-requires c =
    let v = worker_view c.take_in.new.worker in
    subst (λ (port : ℕ). Learns Dealt port v (λ _. Settles v))
    (sym (c.take_in.ensures.same.2 ∙ c.args.owner.rests.0.0))
    (settles v c.take_in.ensures.taken.out_is)

pub returns-clause-order : goal.returns-clause-order
returns-clause-order c =
    let t = c.take_in.ensures.taken in
    let s = c.len_as.ensures.rule.2 in (
      s.thefts,
      sym t.stack_is
          ∙ (s.order ∙ ap (λ (v : View). jobs_of s.thefts ++ left v) (sym c.len_as.ensures.same.2)),
      of_thieves (λ
          (hand : Hand). hand.stolen
          ≡ jobs_by hand.number s.thefts) c.args.thieves
          (subst (All (λ
          (hand : Hand). hand.stolen ≡ jobs_by hand.number s.thefts)) t.hands_is s.hands),
    )
