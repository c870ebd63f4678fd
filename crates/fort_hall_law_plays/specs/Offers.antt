-- The chapter "Plays" of docs/THREADS.md: a leg is offered to a book, which answers as `submit` of
-- fort_hall_books does.
use Rattle.std.specs.Prelude.{◌≡◌, ℕ, Bool, true, false, Some, Result, Ok, Err}
use Rattle.fort_base.specs.declared.refusal.Memory.{Memory}
use Rattle.fort_core.specs.declared.term.Term.{Term}
use Rattle.fort_hall_law_books.specs.Puts.{IsPut}
use Rattle.fort_hall_books.specs.Answers.{HasAnswered}
use Rattle.fort_hall_books.specs.Books.{IsSame}
use Rattle.fort_hall_books.specs.declared.book.Book.{Book}
use Rattle.fort_hall_books.specs.declared.leg.Answer.{Answer}
use Rattle.fort_hall_books.specs.declared.leg.Answer.TheVariants.{Done, Stale}
use Rattle.fort_hall_books.specs.declared.leg.Leg.{Leg}
use Rattle.fort_hall_law_plays.specs.Worlds.{Opened, World, with_book}

-- What becomes of a leg that is offered: the book takes it in, or refuses it, or has no memory.
pub data Outcome : Type 0 where
  taken : Outcome
  refused : Outcome
  wanting : Outcome

abbrev pub is_taken : Outcome → Bool
is_taken taken = true
is_taken refused = false
is_taken wanting = false

abbrev pub outcome_of : Result Answer Memory → Outcome
outcome_of (Ok (Done before)) = taken
outcome_of (Ok (Stale why back)) = refused
outcome_of (Err e) = wanting

-- A pass offers a leg to a book. Where the leg's part still stands at its path, the book answers.
-- Where it doesn't, the leg is refused, and the book is as it was.
pub data Answers (leg : Leg) (pass : ℕ) (old new : Book) (outcome : Outcome) : Type 0 where
  answered : (whole : Term) (answer : Result Answer Memory)
      → IsPut old.term leg.path.0 leg.part leg.term whole → IsSame old new
      → HasAnswered leg pass whole old answer new → outcome ≡ outcome_of answer
      → Answers leg pass old new outcome
  gone : ((whole : Term) → IsPut old.term leg.path.0 leg.part leg.term whole → ⊥) → new ≡ old
      → outcome ≡ refused → Answers leg pass old new outcome

-- So it does to the book of a number; the other books are as they were.
pub record Offers (n : ℕ) (leg : Leg) (pass : ℕ) (outcome : Outcome) (w w' : World) : Type 0 where
  pub old : Opened
  pub new : Book
  pub is_there : w.books n ≡ Some old
  pub answers : Answers leg pass old.book new outcome
  pub is_world : w' ≡ with_book n (Some (record old { book = new })) w
