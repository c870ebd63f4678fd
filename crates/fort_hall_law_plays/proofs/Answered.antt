-- What a book is that was offered a leg.
use Rattle.std.proofs.Common.{◌≡◌, ℕ, ◌≤◌, List, [], ◌∷◌, map, refl, sym, ◌∙◌, subst, if◌then◌else◌, arith}
use Rattle.std.specs.Prelude.{Ok, Err}
use Rattle.std.proofs.lemmas.List.{append-nil}
use Rattle.fort_core.specs.declared.program.Program.{Program}
use Rattle.fort_core.specs.declared.term.Term.{Term}
use Rattle.fort_machine.specs.Threads.{under}
use Rattle.fort_hall_law_books.specs.Books.{Origin}
use Rattle.fort_hall_law_books.specs.Legs.{Legs}
use Rattle.fort_hall_law_books.specs.Puts.{IsPut}
use Rattle.fort_hall_books.specs.Answers.{Suits, HasCause, Appends, Stays}
use Rattle.fort_hall_books.specs.Books.{did, picks_of, IsKept, IsSame}
use Rattle.fort_hall_books.specs.Legs.{IsLegOf}
use Rattle.fort_hall_books.specs.declared.book.Book.{Book}
use Rattle.fort_hall_books.specs.declared.leg.Answer.TheVariants.{Done, Stale}
use Rattle.fort_hall_books.specs.declared.leg.Cause.{Cause}
use Rattle.fort_hall_books.specs.declared.leg.Cause.TheVariants as cause
use Rattle.fort_hall_books.specs.declared.leg.Leg.{Leg}
use Rattle.fort_hall_books.proofs.Books.{appended, stays_kept}
use Rattle.fort_hall_law_plays.specs.Histories.{Given}
use Rattle.fort_hall_law_plays.specs.Laws.{GoesOn, TakenExactly}
use Rattle.fort_hall_law_plays.specs.Offers.{Outcome, taken, refused, is_taken, Answers, answered, gone}
use Rattle.fort_hall_law_plays.proofs.Growth.{still, prefix_as}

-- ---- a kept book stays kept

-- a book with what another one has
abbrev merged : Book → Book → Book
merged x y = record x { done = y.done; entries = y.entries; term = y.term }

along : (p : Program) (x y : Book) → IsSame x y → IsKept p (merged x y) → IsKept p y
along p x y same k = record {
  legs =
      subst (λ (o : Origin). Legs p o.inner o.store o.first (picks_of y.entries) y.term (did y))
      (sym same.origin) k.legs;
  affords = subst (λ (n : ℕ). (did y).cost ≤ n) (sym same.bound) k.affords;
  bounded = k.bounded;
}

with_leg : (p : Program) (leg : Leg) (pass : ℕ) (whole : Term) (x y : Book) → IsKept p x
    → IsLegOf p leg → IsPut x.term leg.path.0 leg.part leg.term whole → IsSame x y
    → Appends leg pass whole x y → IsKept p y
with_leg p leg pass whole x y k l put same h =
    along p x y same
    (appended p x (merged x y) leg whole pass (map (under leg.path.0) leg.picks) k l put h.suits
    refl refl refl refl refl h.entries h.term h.effect)

as_it_was : (p : Program) (x y : Book) → IsKept p x → IsSame x y → Stays x y → IsKept p y
as_it_was p x y k same h =
    along p x y same (stays_kept p x (merged x y) k refl refl refl refl h.entries h.term h.effect)

pub answers_kept : (p : Program) (leg : Leg) (pass : ℕ) (x y : Book) (outcome : Outcome)
    → IsKept p x → IsLegOf p leg → Answers leg pass x y outcome → IsKept p y
answers_kept p leg pass x y outcome k l (answered whole (Ok (Done before)) put same h o) =
    with_leg p leg pass whole x y k l put same h.0
answers_kept p leg pass x y outcome k l (answered whole (Ok (Stale why back)) put same h o) =
    subst (IsKept p) (sym h.2) k
answers_kept p leg pass x y outcome k l (answered whole (Err e) put same h o) =
    as_it_was p x y k same h
answers_kept p leg pass x y outcome k l (gone n e o) = subst (IsKept p) (sym e) k

-- ---- it goes on by the leg, or by none

-- what an outcome gives
abbrev pub gift : Outcome → Given → List Given
gift o g = if is_taken o then g ∷ [] else []

by_leg : (leg : Leg) (pass : ℕ) (whole : Term) (x y : Book) → IsSame x y
    → Appends leg pass whole x y → GoesOn (record { leg = leg; pass = pass } ∷ []) x y
by_leg leg pass whole x y same h = record {
  same = same;
  entries = h.entries;
  effect = h.effect;
  output = prefix_as (did x) (did y) (record { leg = leg; pass = pass } ∷ []) h.effect;
  by_none = λ e. absurd cc;
}

by_no_leg : (x y : Book) → IsSame x y → Stays x y → GoesOn [] x y
by_no_leg x y same h = record {
  same = same;
  entries = h.entries ∙ sym (append-nil x.entries);
  effect = h.effect;
  output = prefix_as (did x) (did y) [] h.effect;
  by_none = λ e. h;
}

pub answers_go : (leg : Leg) (pass : ℕ) (x y : Book) (outcome : Outcome)
    → Answers leg pass x y outcome → GoesOn (gift outcome (record { leg = leg; pass = pass })) x y
answers_go leg pass x y outcome (answered whole (Ok (Done before)) put same h o) =
    subst (λ q. GoesOn (gift q (record { leg = leg; pass = pass })) x y) (sym o)
    (by_leg leg pass whole x y same h.0)
answers_go leg pass x y outcome (answered whole (Ok (Stale why back)) put same h o) =
    subst (λ q. GoesOn (gift q (record { leg = leg; pass = pass })) x y) (sym o)
    (subst (GoesOn [] x) (sym h.2) (still x))
answers_go leg pass x y outcome (answered whole (Err e) put same h o) =
    subst (λ q. GoesOn (gift q (record { leg = leg; pass = pass })) x y) (sym o)
    (by_no_leg x y same h)
answers_go leg pass x y outcome (gone n e o) =
    subst (λ q. GoesOn (gift q (record { leg = leg; pass = pass })) x y) (sym o)
    (subst (GoesOn [] x) (sym e) (still x))

-- ---- exactly where it suits

no_cause : (x : Book) (leg : Leg) (why : Cause) → Suits x leg → HasCause x leg why → ⊥
no_cause x leg cause.Machine s h = h s.machine
no_cause x leg cause.Cost s h = omega (arith, h, s.affords)
no_cause x leg cause.Store s h = h s.fits
no_cause x leg cause.Asleep s h = s.wakes h

pub taken_exactly : TakenExactly
taken_exactly leg pass x y outcome (answered whole (Ok (Done before)) put same h o) n = (
  λ e. (whole, put, h.0.suits),
  λ s. o,
)
taken_exactly leg pass x y outcome (answered whole (Ok (Stale why back)) put same h o) n = (
  λ e. let z : refused ≡ taken = sym o ∙ e in absurd cc,
  λ s. absurd (no_cause x leg why s.2 h.0),
)
taken_exactly leg pass x y outcome (answered whole (Err e) put same h o) n = absurd (n o)
taken_exactly leg pass x y outcome (gone absent e o) n = (
  λ i. let z : refused ≡ taken = sym o ∙ i in absurd cc,
  λ s. absurd (absent s.0 s.1),
)
