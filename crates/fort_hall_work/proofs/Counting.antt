-- A worker's legs and the entries of its pass are as many, after a hold as before it.
use Rattle.std.proofs.Common.{◌≡◌, ℕ, ◌+◌, ◌<◌, ◌≤◌, ◌==◌, Bool, true, false, List, [], ◌∷◌, ◌++◌, length, Some, refl, sym, ap, ◌∙◌, subst, arith, eq-eqb, length-append}
use Rattle.std.proofs.lemmas.List.Sums.{length-filter, count_by-le-length}
use Rattle.std.proofs.lemmas.List.Elements.{filter-append}
use Rattle.fort_turn.specs.declared.held.Pass.{Pass}
use Rattle.fort_turn.specs.declared.held.Turn.{Turn}
use Rattle.fort_turn.specs.Book.{has, entries_by, log_of, Follows}
use Rattle.fort_turn.specs.Passes.{IsIdle, number_of, numbers_of, seen_by, IsSame}
use Rattle.fort_hall_machine.specs.Words.{OneMore}
use Rattle.fort_hall_work.specs.Grown.{HasGrown}
use Rattle.fort_hall_work.specs.Seats.{IsSeated}

has_itself : (n : ℕ) → has n (n ∷ []) ≡ true
has_itself n = let same : (n == n) ≡ true = eq-eqb n n refl in rw same refl

module _ {B E O : Type 0} (history : B → List E) (origin : B → O) (by : E → ℕ) where
  few_of : (n : ℕ) (es : List E) → length (entries_by by n es) ≤ length es
  few_of n es = subst (λ k. k ≤ length es) (sym (length-filter (λ e. by e == n) es)) (count_by-le-length (λ e. by e == n) es)

  -- one entry more of this pass
  one_more : (n m : ℕ) (before after : List E) → m ≡ n → OneMore by m before after
      → length (entries_by by n after) ≡ length (entries_by by n before) + 1
  one_more n m before after is one =
      let mine : (by one.0 == n) ≡ true = eq-eqb (by one.0) n (one.1 ∙ is) in
      let last : entries_by by n (one.0 ∷ []) ≡ one.0 ∷ [] = rw mine refl in
      ap (λ es. length (entries_by by n es)) one.2
      ∙ (ap length (filter-append (λ e. by e == n) before (one.0 ∷ []))
      ∙ (ap (λ es. length (entries_by by n before ++ es)) last
      ∙ length-append (entries_by by n before) (one.0 ∷ [])))

  -- the book that was taken has as many entries of the pass as were counted
  counted_in : (t : Turn B) (p : Pass B) (legs : ℕ) (b : B) → IsSeated history by t p legs
      → Follows history origin by (seen_by p) (numbers_of p) b
      → legs ≡ length (entries_by by (number_of p) (history b))
  counted_in t p legs b s f =
      s.counted ∙ ap length (sym (f.own (number_of p) (ap (has (number_of p)) s.numbers ∙ has_itself (number_of p))))

  appended : (m : ℕ) (before after : List E) (done : Bool) → HasGrown by m before done after
      → done ≡ true → OneMore by m before after
  appended m before after done grown is = subst (λ d. HasGrown by m before d after) is grown

  same_after : (m : ℕ) (before after : List E) (done : Bool) → HasGrown by m before done after
      → done ≡ false → after ≡ before
  same_after m before after done grown is = subst (λ d. HasGrown by m before d after) is grown

  -- a history whose length is a number has room for the count of the leg that was appended
  pub room : (t : Turn B) (p : Pass B) (legs m : ℕ) (b book : B) (done : Bool)
      → IsSeated history by t p legs → Follows history origin by (seen_by p) (numbers_of p) b
      → HasGrown by m (history b) done (history book) → done ≡ true
      → length (history book) < 18446744073709551616 → legs + 1 < 18446744073709551616
  room t p legs m b book done s f grown is few =
      let one = appended m (history b) (history book) done grown is in
      let k : legs ≡ length (entries_by by (number_of p) (history b)) = counted_in t p legs b s f in
      omega (
        arith,
        k,
        few_of (number_of p) (history b),
        ap length one.2,
        length-append (history b) (one.0 ∷ []),
        few,
      )

  -- the worker is seated again, with the entries of its pass counted anew
  seated_on : (t : Turn B) (p q r : Pass B) (legs now : ℕ) (book : B) → IsSeated history by t p legs
      → IsSame p q → IsSame q r → IsIdle t r → seen_by r ≡ Some book
      → now ≡ length (entries_by by (number_of p) (history book)) → IsSeated history by t r now
  seated_on t p q r legs now book s first second idle seen is =
      let number : number_of r ≡ number_of p = second.0 ∙ first.0 in
      record {
        idle = idle;
        numbers = second.2 ∙ (first.2 ∙ (s.numbers ∙ ap (λ n. n ∷ []) (sym number)));
        other = second.3 ∙ (first.3 ∙ s.other);
        counted = is ∙ ap length (ap (λ n. entries_by by n (history book)) (sym number)
            ∙ ap (λ o. entries_by by (number_of r) (log_of history o)) (sym seen));
      }

  pub seated_with_one : (t : Turn B) (p q r : Pass B) (legs m : ℕ) (b book : B) (done : Bool)
      → IsSeated history by t p legs → Follows history origin by (seen_by p) (numbers_of p) b
      → IsSame p q → m ≡ number_of q → HasGrown by m (history b) done (history book)
      → IsSame q r → IsIdle t r → seen_by r ≡ Some book → done ≡ true
      → IsSeated history by t r (legs + 1)
  seated_with_one t p q r legs m b book done s f first mine grown second idle seen is =
      let one = appended m (history b) (history book) done grown is in
      let more = one_more (number_of p) m (history b) (history book) (mine ∙ first.0) one in
      seated_on t p q r legs (legs + 1) book s first second idle seen
      (ap (λ n. n + 1) (counted_in t p legs b s f) ∙ sym more)

  pub seated_with_none : (t : Turn B) (p q r : Pass B) (legs m : ℕ) (b book : B) (done : Bool)
      → IsSeated history by t p legs → Follows history origin by (seen_by p) (numbers_of p) b
      → IsSame p q → HasGrown by m (history b) done (history book)
      → IsSame q r → IsIdle t r → seen_by r ≡ Some book → done ≡ false
      → IsSeated history by t r legs
  seated_with_none t p q r legs m b book done s f first grown second idle seen is =
      let same = same_after m (history b) (history book) done grown is in
      seated_on t p q r legs legs book s first second idle seen
      (counted_in t p legs b s f ∙ ap (λ es. length (entries_by by (number_of p) es)) (sym same))
