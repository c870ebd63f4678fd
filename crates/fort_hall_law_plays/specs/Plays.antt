-- The chapter "Plays" of docs/THREADS.md: what may happen to the books of a run, in any order.
use Rattle.std.specs.Prelude.{◌≡◌, ℕ, List, [], ◌∷◌, Some, None}
use Rattle.fort_core.specs.declared.program.Program.{Program}
use Rattle.fort_hall_books.specs.Legs.{IsLegOf}
use Rattle.fort_hall_books.specs.declared.leg.Leg.{Leg}
use Rattle.fort_hall_law_plays.specs.Attempts.{Begins, IsWhole}
use Rattle.fort_hall_law_plays.specs.Offers.{Outcome, Offers}
use Rattle.fort_hall_law_plays.specs.Worlds.{Opening, Opened, World, with_book}

-- An event: a pass offers a leg of a task to a book; a book is opened for an attempt; a pass offers
-- an attempt that has ended as one leg to the book that opened it, and its own book goes; an
-- attempt's book goes for nothing.
pub data Event : Type 0 where
  submit : (book : ℕ) (leg : Leg) (pass : ℕ) (outcome : Outcome) → Event
  begin : (opening : Opening) (fuel : ℕ) → Event
  finish : (attempt book : ℕ) (leg : Leg) (pass : ℕ) (outcome : Outcome) → Event
  leave : (attempt : ℕ) → Event

-- An attempt's book is there, and goes.
pub record Leaves (n : ℕ) (w w' : World) : Type 0 where
  pub attempt : Opened
  pub opening : Opening
  pub is_there : w.books n ≡ Some attempt
  pub is_opened : attempt.opening ≡ Some opening
  pub is_world : w' ≡ with_book n None w

-- An attempt's book is there and has ended; it goes, and its leg is offered to the book that opened
-- it, if that is there.
pub record Finishes (p : Program) (n m : ℕ) (leg : Leg) (pass : ℕ) (outcome : Outcome)
    (w w' : World) : Type 0 where
  pub between : World
  pub leaves : Leaves n w between
  pub is_book : leaves.opening.book ≡ m
  pub is_whole : IsWhole p leaves.attempt.book leaves.opening leg
  pub offers : Offers m leg pass outcome between w'

-- A world becomes another one by an event.
abbrev pub Happens : Program → World → Event → World → Type 0
Happens p w (submit n leg pass outcome) w' = IsLegOf p leg × Offers n leg pass outcome w w'
Happens p w (begin opening fuel) w' = Begins opening fuel w w'
Happens p w (finish n m leg pass outcome) w' = Finishes p n m leg pass outcome w w'
Happens p w (leave n) w' = Leaves n w w'

-- It becomes another one by a list of events, one after the other.
abbrev pub Plays : Program → World → List Event → World → Type 0
Plays p w [] w' = w' ≡ w
Plays p w (event ∷ events) w' =
    (between : World) × Happens p w event between × Plays p between events w'
