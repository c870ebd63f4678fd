-- The chapter "Books" of docs/THREADS.md: which leg a book takes in, and what it answers.
use Rattle.std.specs.Prelude.{◌≡◌, ◌≢◌, ℕ, ◌+◌, ◌<◌, ◌≤◌, List, [], ◌∷◌, ◌++◌, map, Option, Some, None, Result, Ok, Err}
use Rattle.fort_base.specs.declared.refusal.Memory.{Memory}
use Rattle.fort_core.specs.declared.term.Term.{Term}
use Rattle.fort_machine.specs.Effects.{Store, FitsAll, both}
use Rattle.fort_machine.specs.Threads.{under}
use Rattle.fort_store_effects.specs.Levels.{effect_of}
use Rattle.fort_hall_books.specs.declared.book.Book.{Book}
use Rattle.fort_hall_books.specs.declared.leg.Answer.{Answer}
use Rattle.fort_hall_books.specs.declared.leg.Answer.TheVariants.{Done, Stale}
use Rattle.fort_hall_books.specs.declared.leg.Cause.{Cause}
use Rattle.fort_hall_books.specs.declared.leg.Cause.TheVariants as cause
use Rattle.fort_hall_books.specs.declared.leg.Kind.{Kind}
use Rattle.fort_hall_books.specs.declared.leg.Kind.TheVariants as kind
use Rattle.fort_hall_books.specs.declared.leg.Leg.{Leg}
use Rattle.fort_hall_books.specs.Legs.{AllThere}
use Rattle.fort_hall_books.specs.Books.{did, store_of}

-- The form that a leg tried sleeps on a store: each of its marks has its value there.
abbrev pub IsAsleep : Kind → Store → Type 0
IsAsleep (kind.Attempt (Some ms)) s = AllThere s ms
IsAsleep _ s = ⊥

-- A leg suits a book: it is one of its machine, which can afford it; at each location that it touched
-- there is what it found; and the form that it tried, if it tried one, doesn't sleep.
pub record Suits (x : Book) (leg : Leg) : Type 0 where
  pub machine : leg.inner ≡ x.inner
  pub affords : (did x).cost + (effect_of leg.done).cost ≤ x.most
  pub fits : FitsAll (effect_of leg.done) (store_of x)
  pub wakes : IsAsleep leg.kind (store_of x) → ⊥

-- This is why it doesn't.
abbrev pub HasCause : Book → Leg → Cause → Type 0
HasCause x leg cause.Machine = leg.inner ≢ x.inner
HasCause x leg cause.Cost = x.most < (did x).cost + (effect_of leg.done).cost
HasCause x leg cause.Store = FitsAll (effect_of leg.done) (store_of x) → ⊥
HasCause x leg cause.Asleep = IsAsleep leg.kind (store_of x)

-- A leg that suits is appended, as one entry that names the pass, and the book has come to a term.
pub record Appends (leg : Leg) (pass : ℕ) (whole : Term) (old new : Book) : Type 0 where
  pub suits : Suits old leg
  pub entries : new.entries
      ≡ old.entries ++ record { pass = pass; picks = map (under leg.path.0) leg.picks } ∷ []
  pub term : new.term ≡ whole
  pub effect : did new ≡ both (did old) (effect_of leg.done)

-- A book is as it was.
pub record Stays (old new : Book) : Type 0 where
  pub entries : new.entries ≡ old.entries
  pub term : new.term ≡ old.term
  pub effect : did new ≡ did old

-- A book answers: the leg was appended, and the old term is handed out; or it has this cause, is
-- handed back, and nothing has changed. Where memory is wanting the book is as it was.
abbrev pub HasAnswered : Leg → ℕ → Term → Book → Result Answer Memory → Book → Type 0
HasAnswered leg pass whole old (Ok (Done before)) new =
    Appends leg pass whole old new × (before ≡ old.term)
HasAnswered leg pass whole old (Ok (Stale why back)) new =
    HasCause old leg why × (back ≡ leg) × (new ≡ old)
HasAnswered leg pass whole old (Err e) new = Stays old new
