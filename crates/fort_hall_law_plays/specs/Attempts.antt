-- The chapter "Plays" of docs/THREADS.md: the book of an attempt is opened, and is one leg once the
-- attempt has ended. An attempt that aborts has such a leg too; the code makes none of it.
use Rattle.std.specs.Prelude.{◌≡◌, ℕ, ◌+◌, true, false, List, [], ◌∷◌, ◌++◌, map, Option, Some}
use Rattle.fort_core.specs.declared.pick.Pick.{Pick, Attempt}
use Rattle.fort_core.specs.declared.program.Program.{Program}
use Rattle.fort_core.specs.declared.term.Term.{Term}
use Rattle.fort_machine.specs.Attempts.{Form, Ended, goes, aborts, Closes}
use Rattle.fort_machine.specs.Effects.{Store, Effect, both, FitsAll}
use Rattle.fort_machine.specs.Ends.{has_stepped}
use Rattle.fort_machine.specs.Frames.{Frame, plug, road, passed, trodden}
use Rattle.fort_machine.specs.Journals.{MakesWithinBounds}
use Rattle.fort_machine.specs.Marked.{Marks}
use Rattle.fort_machine.specs.Runs.{path_to}
use Rattle.fort_machine.specs.Threads.{under}
use Rattle.fort_store_effects.specs.Levels.{effect_of, levels_of, seen}
use Rattle.fort_store_effects.specs.declared.layers.Layers.{Layers}
use Rattle.fort_hall_law_books.specs.Taken.{IsStepped}
use Rattle.fort_hall_books.specs.Books.{did, store_of, picks_of, IsNew}
use Rattle.fort_hall_books.specs.Legs.{Watches}
use Rattle.fort_hall_books.specs.declared.book.Book.{Book}
use Rattle.fort_hall_books.specs.declared.leg.Kind.TheVariants.{Attempt as Attempted}
use Rattle.fort_hall_books.specs.declared.leg.Leg.{Leg}
use Rattle.fort_hall_law_plays.specs.Worlds.{Opening, Opened, World, with_book}

-- In a term a part stands at a path, isn't passed over and is no mark, and an atomic form stands in
-- it and isn't passed over.
pub record StandsAt (t : Term) (at : Opening) : Type 0 where
  pub around : List Frame
  pub is_term : t ≡ plug around at.part
  pub is_path : road around ≡ at.path.0
  pub reached : passed around at.part ≡ false
  pub unmarked : has_stepped at.part ≡ false
  pub is_part : at.part ≡ plug at.frames at.form
  pub through : passed at.frames at.form ≡ false

-- A book is opened under the next number: of an attempt of a form at which a task of another book
-- stands. It begins at the form's body, on the store to which that book has come, and may cost so
-- much.
pub record Begins (at : Opening) (fuel : ℕ) (w w' : World) : Type 0 where
  pub outer : Opened
  pub is_there : w.books at.book ≡ Some outer
  pub stands : StandsAt outer.book.term at
  pub body : Term
  pub is_form : Form at.form at.mode body
  pub view : Layers
  pub is_store : seen (levels_of view) ≡ store_of outer.book
  pub book : Book
  pub is_new : IsNew true view body fuel book
  pub is_world : w'
      ≡ record (with_book w.next (Some (record { book = book; opening = Some at })) w) {
        next = w.next + 1;
      }

-- What the picks of an attempt's book led to and did: its term; or an abort, by some steps more of
-- a part of its term, which suit its store.
pub data LedTo (p : Program) (x : Book) (picks : List Pick) (r : Ended) (d : Effect)
    : Type 0 where
  at_term : picks ≡ picks_of x.entries → r ≡ goes x.term → d ≡ did x → LedTo p x picks r d
  at_abort : {s : Store} {part : Term} {more : List Pick} {e : Effect} (fs : List Frame)
      → x.term ≡ plug fs part → passed fs part ≡ false → has_stepped part ≡ false
      → IsStepped p x.inner s part more aborts e → FitsAll e (store_of x) → MakesWithinBounds e
      → picks ≡ picks_of x.entries ++ map (under (road fs)) more → r ≡ aborts → d ≡ both (did x) e
      → LedTo p x picks r d

-- An attempt that has ended, as one leg of the task by which it was opened: its only pick is the
-- attempt, with the picks of its book as the inner ones, and it closes as the machine says.
pub record IsWhole (p : Program) (x : Book) (at : Opening) (leg : Leg) : Type 0 where
  pub within : List Pick
  pub ended : Ended
  pub done : Effect
  pub becomes : Term
  pub watched : Option Marks
  pub led : LedTo p x within ended done
  pub closes : Closes p at.mode x.first ended done becomes (effect_of leg.done)
  pub is_path : leg.path ≡ at.path
  pub is_part : leg.part ≡ at.part
  pub is_kind : leg.kind ≡ Attempted watched
  pub watches : Watches watched at.form
  pub is_picks : leg.picks ≡ Attempt (path_to at.frames) within ∷ []
  pub is_term : leg.term ≡ plug (trodden at.frames) becomes
