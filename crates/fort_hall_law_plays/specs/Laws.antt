-- The chapter "Plays" of docs/THREADS.md: what holds of the books of every play.
use Rattle.std.specs.Prelude.{◌≡◌, ◌≢◌, ◌↔◌, ℕ, ◌≤◌, true, List, [], ◌++◌, map, Some, None, Result}
use mathlib.Core.List.{IsPrefix}
use Rattle.fort_base.specs.declared.refusal.Memory.{Memory}
use Rattle.fort_core.specs.declared.program.Program.{Program}
use Rattle.fort_core.specs.declared.term.Term.{Term}
use Rattle.fort_machine.specs.Attempts.{goes}
use Rattle.fort_machine.specs.Effects.{idle, FitsAll}
use Rattle.fort_machine.specs.Journals.{IsRun}
use Rattle.fort_machine.specs.Runs.{Runs}
use Rattle.fort_machine.specs.Written.{WrittenProgram}
use Rattle.fort_store_effects.specs.Levels.{effect_of}
use Rattle.fort_hall_law_books.specs.Books.{Origin, root_of, IsBook}
use Rattle.fort_hall_law_books.specs.Puts.{IsPut}
use Rattle.fort_hall_books.specs.Answers.{Suits, Stays, HasAnswered}
use Rattle.fort_hall_books.specs.Books.{origin_of, did, store_of, picks_of, IsKept, IsSame}
use Rattle.fort_hall_books.specs.Legs.{IsTaken, IsLegOf}
use Rattle.fort_hall_books.specs.declared.book.Book.{Book}
use Rattle.fort_hall_books.specs.declared.leg.Answer.{Answer}
use Rattle.fort_hall_books.specs.declared.leg.Leg.{Leg}
use Rattle.fort_hall_law_plays.specs.Histories.{Given, entry_of, done_by, given, offers_of, entries_of}
use Rattle.fort_hall_law_plays.specs.Offers.{Outcome, taken, wanting, outcome_of, Answers}
use Rattle.fort_hall_law_plays.specs.Plays.{Event, submit, Finishes, Happens, Plays}
use Rattle.fort_hall_law_plays.specs.Worlds.{Opening, Opened, World, with_book, BeganIn, Starts}

-- A book of a number, after events from a play's beginning: its picks are legs, and a run, from
-- where it began to its term, within what it may cost; it began in a term of a run, and an
-- attempt's with a machine. Its entries are the legs that it took in, once each, in the order of
-- the events, and it did what these did and nothing else. Of each pass it has just those that this
-- pass offered, in the order of its offers.
pub record IsPlayed (p : Program) (n : ℕ) (events : List Event) (x : Opened) : Type 0 where
  pub kept : IsKept p x.book
  pub runs : (let o = origin_of x.book in
      Runs p o.inner true o.store (picks_of x.book.entries) o.first (goes x.book.term) (did x.book))
  pub began : BeganIn p (origin_of x.book)
  pub attempt : (opening : Opening) → x.opening ≡ Some opening
      → IsBook p (origin_of x.book) (picks_of x.book.entries) (goes x.book.term) (did x.book)
  pub entries : x.book.entries ≡ map entry_of (given n events)
  pub effect : did x.book ≡ done_by idle (given n events)
  pub own : (pass : ℕ)
      → entries_of pass x.book.entries ≡ map entry_of (given n (offers_of pass events))

-- Every list of events leaves such books, under whatever number, where the program is as it is
-- written.
abbrev pub PlaysKeep : Type 0
PlaysKeep = (p : Program) (o : Origin) (fuel : ℕ) (w w' : World) (events : List Event)
    → WrittenProgram p → Starts p o fuel w → Plays p w events w'
    → (n : ℕ) (x : Opened) → w'.books n ≡ Some x → IsPlayed p n events x

-- A book goes on by legs that it took in: it is the same book, has their entries behind those that
-- it had, and did what they did behind what it had done. By none it is as it was.
pub record GoesOn (gs : List Given) (old new : Book) : Type 0 where
  pub same : IsSame old new
  pub entries : new.entries ≡ old.entries ++ map entry_of gs
  pub effect : did new ≡ done_by (did old) gs
  pub output : IsPrefix (did old).output (did new).output
  pub by_none : gs ≡ [] → Stays old new

-- So a book goes on from one world of a play to a later one that has its number; no other book has
-- it.
abbrev pub PlaysGoOn : Type 0
PlaysGoOn = (p : Program) (o : Origin) (fuel : ℕ) (first w w' : World) (before events : List Event)
    → WrittenProgram p → Starts p o fuel first → Plays p first before w → Plays p w events w'
    → (n : ℕ) (x y : Opened) → w.books n ≡ Some x → w'.books n ≡ Some y
    → GoesOn (given n events) x.book y.book × (y.opening ≡ x.opening)

-- The picks of the root's book of a program are a run of it within its fuel, by every list of
-- events.
abbrev pub PlayIsRun : Type 0
PlayIsRun = (p : Program) (fuel : ℕ) (w w' : World) (events : List Event)
    → WrittenProgram p → Starts p (root_of p) fuel w → Plays p w events w'
    → (x : Book) × (w'.books 0 ≡ Some (record { book = x; opening = None }))
    × IsBook p (root_of p) (picks_of x.entries) (goes x.term) (did x)
    × IsRun p (picks_of x.entries) x.term (did x) × ((did x).cost ≤ fuel)

-- An attempt that has ended is a leg of the task that opened it, wherever in a play.
abbrev pub AttemptIsLeg : Type 0
AttemptIsLeg = (p : Program) (o : Origin) (fuel : ℕ) (first w w' : World) (before : List Event)
    (n m : ℕ) (leg : Leg) (pass : ℕ) (outcome : Outcome)
    → WrittenProgram p → Starts p o fuel first → Plays p first before w
    → Finishes p n m leg pass outcome w w' → IsLegOf p leg

-- What `submit` of fort_hall_books requires and ensures is an event.
abbrev pub SubmitIsEvent : Type 0
SubmitIsEvent = (p : Program) (w : World) (n : ℕ) (x : Opened) (new : Book) (leg : Leg) (pass : ℕ)
    (whole : Term) (answer : Result Answer Memory)
    → w.books n ≡ Some x → IsLegOf p leg → IsPut x.book.term leg.path.0 leg.part leg.term whole
    → IsSame x.book new → HasAnswered leg pass whole x.book answer new
    → Happens p w (submit n leg pass (outcome_of answer))
    (with_book n (Some (record x { book = new })) w)

-- Unless memory is wanting, a book takes a leg in exactly where the leg's part still stands at its
-- path and the leg suits the book.
abbrev pub TakenExactly : Type 0
TakenExactly = (leg : Leg) (pass : ℕ) (old new : Book) (outcome : Outcome)
    → Answers leg pass old new outcome → outcome ≢ wanting
    → ((outcome ≡ taken)
    ↔ ((whole : Term) × IsPut old.term leg.path.0 leg.part leg.term whole × Suits old leg))

-- A book finds in a leg what it would have found earlier.
pub record FindsAgain (p : Program) (leg : Leg) (old new : Book) : Type 0 where
  pub stands : new.term ≡ old.term
  pub fits : IsTaken p (store_of old) leg → FitsAll (effect_of leg.done) (store_of new)
  pub suits : Suits old leg → Suits new leg

-- So it does until it takes another one in, whatever else happens: the terms of its tasks are as
-- they were, the store suits a leg that was taken on the store to which it had come, and what
-- suited it suits it.
abbrev pub FreshLegSuits : Type 0
FreshLegSuits = (p : Program) (o : Origin) (fuel : ℕ) (first w w' : World)
    (before events : List Event)
    → WrittenProgram p → Starts p o fuel first → Plays p first before w → Plays p w events w'
    → (n : ℕ) (x y : Opened) (leg : Leg) → w.books n ≡ Some x → w'.books n ≡ Some y
    → given n events ≡ [] → FindsAgain p leg x.book y.book

-- A play of a written program may begin with the program.
abbrev pub ProgramBegan : Type 0
ProgramBegan = (p : Program) → WrittenProgram p → BeganIn p (root_of p)
