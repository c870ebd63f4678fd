-- Thieves that are taken in one by one.
use Rattle.std.proofs.Common.{◌≡◌, ℕ, ◌+◌, List, [], ◌∷◌, ◌++◌, length, refl, sym, ap, ◌∙◌, subst, arith, append_assoc, length-append}
use Rattle.std.specs.Prelude.{sum_by}
use Rattle.std.specs.List.{All}
use Rattle.std.proofs.lemmas.List.{get_or_append_left, map-append, length-map}
use lib.ListN.{get_or-map}
use Rattle.crossbeam_deque.specs.Handles.{view}
use Rattle.fort_deck.specs.declared.job.Job.{Job}
use Rattle.fort_deck.specs.declared.view.Hand.{Hand}
use Rattle.fort_deck.specs.declared.view.View.{View}
use Rattle.fort_deck.specs.declared.held.Thief.{Thief}
use Rattle.fort_deck.specs.Views.{one_less, hand_of_view}
use Rattle.fort_deck.specs.Resting.{TakesIn}
use Rattle.fort_deck.specs.Decks.{hands_of, stolen_by}
use Rattle.fort_deck.proofs.Weights.{sum_map}

pub one_longer : (all rest : List Thief) (x : Thief) → all ≡ rest ++ x ∷ []
    → length all ≡ length rest + 1
one_longer all rest x is = omega (arith, ap length is, length-append rest (x ∷ []))

pub takes_one : (all rest : List Thief) (x : Thief) (v w u : View) → all ≡ rest ++ x ∷ []
    → TakesIn v (length all) w.hands w → u ≡ one_less w (view x.pass)
    → TakesIn v (length rest) u.hands u
takes_one all rest x v w u is t after = record {
  put_is = ap (λ (y : View). y.put) after ∙ t.put_is;
  owned_is = ap (λ (y : View). y.owned) after ∙ t.owned_is;
  stack_is = ap (λ (y : View). y.stack) after ∙ t.stack_is;
  thieves_is = ap (λ (y : View). y.thieves) after ∙ t.thieves_is;
  out_is = ap (λ
      (y : View). y.out) after
      ∙ (let o : w.out ≡ length all = t.out_is in let n = one_longer all rest x is in omega arith);
  hands_is = refl;
}

pub hands_one : (all rest goal : List Thief) (x : Thief) (w u : View) → all ≡ rest ++ x ∷ []
    → hands_of all ++ w.hands ≡ hands_of goal → u ≡ one_less w (view x.pass)
    → hands_of rest ++ u.hands ≡ hands_of goal
hands_one all rest goal x w u is kept after =
    ap (λ (y : View). hands_of rest ++ y.hands) after
    ∙ (sym (append_assoc (hands_of rest) (hands_of (x ∷ [])) w.hands)
    ∙ (ap (λ (hs : List Hand). hs ++ w.hands)
    (sym (ap hands_of is ∙ map-append (λ
    (t : Thief). hand_of_view (view t.pass)) rest (x ∷ []))) ∙ kept))

pub front_of : (P : Thief → Type 0) (all rest : List Thief) (x : Thief) → all ≡ rest ++ x ∷ []
    → All P all → All P rest
front_of P all rest x is each k d l =
    let each' : All P (rest ++ x ∷ []) = subst (All P) is each in
    subst P (get_or_append_left rest (x ∷ []) d k l)
    (each' k d (omega (arith, length-append rest (x ∷ []))))

-- what holds of the hands holds of the thieves
pub of_thieves : (P : Hand → Type 0) (thieves : List Thief) → All P (hands_of thieves)
    → All (λ thief. P (hand_of_view (view thief.pass))) thieves
of_thieves P thieves each k d l =
    let f : Thief → Hand = λ thief. hand_of_view (view thief.pass) in
    subst P (get_or-map f thieves k d) (each k (f d) (omega (arith, length-map thieves f)))

pub weight_of_hands : (weight : Job → ℕ) (thieves : List Thief)
    → sum_by (λ hand. sum_by weight hand.stolen) (hands_of thieves)
    ≡ sum_by (λ thief. sum_by weight (stolen_by thief)) thieves
weight_of_hands weight thieves =
    sum_map (λ (hand : Hand). sum_by weight hand.stolen) (λ
    (thief : Thief). hand_of_view (view thief.pass)) thieves
