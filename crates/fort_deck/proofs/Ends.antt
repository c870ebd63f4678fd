-- What is known once all thieves are taken in.
use Rattle.std.proofs.Common.{◌≡◌, ℕ, List, [], ◌∷◌, ◌++◌, length, drop, refl, sym, ap, ◌∙◌, arith}
use Rattle.std.specs.Prelude.{sum_by}
use Rattle.std.proofs.lemmas.List.Sums.{sum_by-append}
use lib.Seq.{drop-append_seam}
use Rattle.crossbeam_deque.specs.Tasks.{Pops, Finds, Learns}
use Rattle.fort_deck.specs.declared.job.Job.{Job}
use Rattle.fort_deck.specs.declared.view.Hand.{Hand}
use Rattle.fort_deck.specs.declared.view.View.{View}
use Rattle.fort_deck.specs.Thefts.{jobs_of}
use Rattle.fort_deck.specs.Views.{owning, left}
use Rattle.fort_deck.specs.Dealt.{Holds, Dealt}
use Rattle.fort_deck.specs.Calls.{Settles, Nexts}
use Rattle.fort_deck.proofs.Weights.{same_sum, ones, silent}
use Rattle.fort_deck.proofs.Deals.{of_owner, owns_one}

module _ (v : View) (jobs : List Job) (views : List View) (none_out : v.out ≡ 0)
    (r : Holds v jobs views) where
  all_taken_in : (weight : Job → ℕ)
      → sum_by weight (jobs_of r.thefts) ≡ sum_by (λ hand. sum_by weight hand.stolen) v.hands
  all_taken_in weight =
      let t = r.stolen weight
      in let s = silent weight views (r.out_is ∙ none_out) (λ j u e. (r.each j u e).idle)
      in omega arith

  -- as many were stolen as the thieves took
  count : length (jobs_of r.thefts) ≡ sum_by (λ hand. length hand.stolen) v.hands
  count = sym (ones (jobs_of r.thefts))
      ∙ (all_taken_in (λ _. 1) ∙ same_sum (λ
      (hand : Hand). sum_by (λ _. 1) hand.stolen) (λ hand. length hand.stolen)
      (λ hand. ones hand.stolen) v.hands)

  -- what the deck holds is what is left
  pub left_is : left v ≡ jobs
  left_is =
      ap (λ (n : ℕ). drop n v.stack) (sym count)
      ∙ (ap (drop (length (jobs_of r.thefts))) r.stack_is
      ∙ drop-append_seam (jobs_of r.thefts) jobs)

  pub settled : Settles v
  settled = record {
    thefts = r.thefts;
    order = r.stack_is ∙ ap (λ (l : List Job). jobs_of r.thefts ++ l) (sym left_is);
    hands = λ k hand l. (r.hands k hand l).stolen;
    all = λ weight.
        let b = r.balance weight in
        let t = all_taken_in weight in
        let s : sum_by weight v.stack ≡ sum_by weight (jobs_of r.thefts ++ jobs) =
        ap (sum_by weight) r.stack_is in
        let l : sum_by weight (left v) ≡ sum_by weight jobs = ap (sum_by weight) left_is in
        omega (arith, sum_by-append weight (jobs_of r.thefts) jobs);
  }

pub settles : (v : View) → v.out ≡ 0 → Learns Dealt 0 v (λ _. Settles v)
settles v none_out items views d at = settled v items views none_out (of_owner items views v d at)

pub nexts : (v : View) → v.out ≡ 0 → Pops Dealt 0 v (Nexts v)
nexts v none_out x items views d at =
    let r = of_owner (items ++ x ∷ []) views v d at in
    let w = owning v v.put (v.owned ++ x ∷ []) (jobs_of r.thefts ++ items) in
    let o = owns_one v x items views r at in (
      w,
      (w, o.1),
      (
        left_is v (items ++ x ∷ []) views none_out r ∙ ap (λ
            (l : List Job). l ++ x ∷ []) (sym (left_is w items _ none_out o.1)),
        refl,
      ),
    )

pub none_left : (v : View) → v.out ≡ 0 → Finds Dealt 0 v (left v ≡ [])
none_left v none_out views d at = left_is v [] views none_out (of_owner [] views v d at)
