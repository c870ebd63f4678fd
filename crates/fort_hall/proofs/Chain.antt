-- Passes are taken in, one after another, and the book is closed.
use Rattle.std.proofs.Common.{◌≡◌, ℕ, zero, suc, ◌+◌, ◌<◌, ◌≤◌, true, false, List, [], ◌∷◌, ◌++◌, length, Option, Some, refl, sym, ap, ◌∙◌, arith, eq-eqb, ◌==◌, set, slice_index, get_or-set_same, get_or-set_other}
use mathlib.Core.Logic.{dite}
use native.Mathlib.Decide.{ℕ_discrete}
use Rattle.fort_turn.specs.declared.held.Pass.{Pass}
use Rattle.fort_turn.specs.declared.held.Turn.{Turn}
use Rattle.fort_turn.specs.Book.{has, entries_by, log_of, Follows}
use Rattle.fort_turn.specs.Passes.{IsIdle, number_of, numbers_of, seen_by, is_first, made_by}
use Rattle.fort_turn.proofs.Books.{has_front, has_back}
use Rattle.fort_hall_work.specs.Seats.{IsSeated}
use Rattle.fort_hall.specs.Gathered.{Gathered, Counts}

has_one : (k n : ℕ) → k ≡ n → has k (n ∷ []) ≡ true
has_one k n is = let same : (k == n) ≡ true = eq-eqb k n is in rw same refl

module _ {B E O : Type 0} (history : B → List E) (origin : B → O) (by : E → ℕ) where
  entries_in : ℕ → Option B → List E
  entries_in k o = entries_by by k (log_of history o)

  -- one pass more was taken in
  pub takes_one : (t : Turn B) (start : O) (legs : List ℕ) (low high count : ℕ) (p q now : Pass B) (b : B)
      → Gathered history origin by t start legs (low + 1) high p → low < length legs
      → IsSeated history by t q count → number_of q ≡ low + 1
      → IsIdle t now → is_first now ≡ is_first p → numbers_of now ≡ numbers_of p ++ numbers_of q
      → seen_by now ≡ Some b → Follows history origin by (seen_by p) (numbers_of p) b
      → Follows history origin by (seen_by q) (numbers_of q) b
      → Gathered history origin by t start (set legs low count) low high now
  takes_one t start legs low high count p q now b h room w number idle first numbers seen mine its = record {
    idle = idle;
    first = first ∙ h.first;
    book = b;
    seen = seen;
    origin_is = mine.origin_is h.book h.seen ∙ h.origin_is;
    zero = ap (has 0) numbers ∙ has_front 0 (numbers_of p) (numbers_of q) h.zero;
    none = mine.own 0 h.zero ∙ (ap (λ o. entries_by by 0 (log_of history o)) h.seen ∙ h.none);
    taken = λ k l u. dite (ℕ_discrete k low)
        (λ is. ap (has (k + 1)) numbers ∙ has_back (k + 1) (numbers_of p) (numbers_of q) (its_own k is))
        (λ not. ap (has (k + 1)) numbers ∙ has_front (k + 1) (numbers_of p) (numbers_of q) (h.taken k (omega arith) u));
    counted = λ k l u. dite (ℕ_discrete k low)
        (λ is. ap (λ n. slice_index (set legs low count) n) is ∙ (get_or-set_same legs low count 0 room ∙ (w.counted ∙ ap length (
        ap (λ n. entries_by by n (log_of history (seen_by q))) (number ∙ ap (λ n. n + 1) (sym is))
        ∙ sym (its.own (k + 1) (its_own k is))))))
        (λ not. get_or-set_other legs low k count 0 not ∙ (h.counted k (omega arith) u ∙ ap length (
        ap (λ o. entries_by by (k + 1) (log_of history o)) (sym h.seen) ∙ sym (mine.own (k + 1) (h.taken k (omega arith) u)))));
  }
    where
      its_own : (k : ℕ) → k ≡ low → has (k + 1) (numbers_of q) ≡ true
      its_own k is = ap (has (k + 1)) w.numbers ∙ has_one (k + 1) (number_of q) (ap (λ n. n + 1) is ∙ sym number)

  -- the book at the end has of each worker's number as many entries as were counted
  pub closes : (t : Turn B) (start : O) (legs : List ℕ) (high made : ℕ) (p : Pass B) (book : B)
      → Gathered history origin by t start legs 0 high p → length legs ≡ high → made ≡ high + 1
      → Follows history origin by (seen_by p) (numbers_of p) book
      → ((k : ℕ) → made ≤ k → entries_by by k (history book) ≡ [])
      → Counts history by legs book
  closes t start legs high made p book h long all f others = record {
    own = λ k l. h.counted k (omega arith) (omega (arith, long)) ∙ ap length (
        ap (λ o. entries_by by (k + 1) (log_of history o)) (sym h.seen) ∙ sym (f.own (k + 1) (h.taken k (omega arith) (omega (arith, long)))));
    zero = f.own 0 h.zero ∙ (ap (λ o. entries_by by 0 (log_of history o)) h.seen ∙ h.none);
    others = λ k l. others k (omega (arith, long, all));
  }

  pub begins_at : (t : Turn B) (start : O) (legs : List ℕ) (high : ℕ) (p : Pass B) (book : B)
      → IsIdle t p → is_first p ≡ true → numbers_of p ≡ 0 ∷ [] → seen_by p ≡ Some book → origin book ≡ start
      → entries_by by 0 (history book) ≡ []
      → Gathered history origin by t start legs high high p
  begins_at t start legs high p book idle first numbers seen o none = record {
    idle = idle;
    first = first;
    book = book;
    seen = seen;
    origin_is = o;
    zero = ap (has 0) numbers;
    none = none;
    taken = λ k l u. absurd (omega arith);
    counted = λ k l u. absurd (omega arith);
  }

  pub new_seat : (t : Turn B) (p : Pass B) → IsIdle t p → numbers_of p ≡ number_of p ∷ [] → is_first p ≡ false
      → entries_by by (number_of p) (log_of history (seen_by p)) ≡ [] → IsSeated history by t p 0
  new_seat t p idle numbers other nothing = record {
    idle = idle;
    numbers = numbers;
    other = other;
    counted = sym (ap length nothing);
  }

  pub all_taken : (t : Turn B) (start : O) (legs : List ℕ) (high : ℕ) (p : Pass B)
      → Gathered history origin by t start legs 0 high p → made_by p ≡ high + 1
      → (k : ℕ) → k < made_by p → has k (numbers_of p) ≡ true
  all_taken t start legs high p h all zero l = h.zero
  all_taken t start legs high p h all (suc k) l =
      let e : suc k ≡ k + 1 = omega arith in
      ap (λ n. has n (numbers_of p)) e ∙ h.taken k (omega arith) (omega (arith, all))
