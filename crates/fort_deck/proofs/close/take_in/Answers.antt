use Rattle.std.proofs.Common.{ℕ, ◌∙◌, sym, subst, arith}
use Rattle.crossbeam_deque.specs.Tasks.{Merges}
use Rattle.crossbeam_deque.specs.Handles.{view, worker_view}
use Rattle.fort_deck.specs.Views.{one_less, nobody}
use Rattle.fort_deck.specs.Dealt.{Dealt}
use Rattle.fort_deck.specs.Decks.{IsThiefOf}
use Rattle.fort_deck.proofs.Deals.{merges}
use Rattle.fort_deck.proofs.TakenIn.{takes_one, hands_one, front_of}
use Rattle.fort_deck.proofs.close.take_in.Goals as goal

pub absorb-requires-clause-rule : goal.absorb-requires-clause-rule
absorb-requires-clause-rule c =
    let v = worker_view c.loop-thief.worker in
    let pass = c.in-Some.thief.pass in
    subst (λ (port : ℕ). Merges Dealt port v pass.id (view pass) (one_less v (view pass)) nobody)
    (sym (c.loop-thief.invariant.same.2 ∙ c.requires.worker.0.0))
    (merges v pass.id (view pass) c.in-Some.thief.steals)

pub loop-thief-preserved : goal.loop-thief-preserved
loop-thief-preserved c =
    let i = c.loop-thief.invariant in
    let all = c.loop-thief.thieves in
    let rest = c.pop.new.self in
    let x = c.in-Some.thief in
    let v = worker_view c.loop-thief.worker in
    let u = worker_view c.absorb.new.self in
    let after = c.absorb.ensures.rule in
    let same = c.absorb.ensures.same.0 in record {
      same = (
        same.0 ∙ i.same.0,
        same.1 ∙ i.same.1,
        same.2
            ∙ i.same.2,
        omega (arith, same.3, i.same.3),
      );
      taken = takes_one all rest x (worker_view c.args.worker.now) v u c.in-Some.ensures i.taken
          after;
      hands = hands_one all rest c.args.thieves x v u c.in-Some.ensures i.hands after;
      theirs = front_of (IsThiefOf c.args.deck.now) all rest x c.in-Some.ensures i.theirs;
    }
