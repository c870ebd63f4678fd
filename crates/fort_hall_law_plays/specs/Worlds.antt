-- The chapter "Plays" of docs/THREADS.md: the books of a play. The code has the root's book in a
-- turn, and those of attempts on shelves.
use Rattle.std.specs.Prelude.{◌≡◌, ℕ, ◌==◌, false, if◌then◌else◌, List, Option, Some, None}
use Rattle.fort_core.specs.declared.form.Mode.{Mode}
use Rattle.fort_core.specs.declared.path.Path.{Path}
use Rattle.fort_core.specs.declared.program.Program.{Program}
use Rattle.fort_core.specs.declared.term.Term.{Term}
use Rattle.fort_machine.specs.Ends.{has_stepped}
use Rattle.fort_machine.specs.Frames.{Frame, plug, passed}
use Rattle.fort_machine.specs.Proper.{Reached}
use Rattle.fort_store_effects.specs.Levels.{levels_of, seen}
use Rattle.fort_store_effects.specs.declared.layers.Layers.{Layers}
use Rattle.fort_hall_law_books.specs.Books.{Origin}
use Rattle.fort_hall_books.specs.Books.{IsNew}
use Rattle.fort_hall_books.specs.declared.book.Book.{Book}

-- Where an attempt was opened: the number of the book whose task stood at an atomic form; the
-- task's path and part; and in the part the frames round the form, the form, and its mode.
pub record Opening : Type 0 where
  pub book : ℕ
  pub path : Path
  pub part : Term
  pub frames : List Frame
  pub form : Term
  pub mode : Mode

-- A book of a world, and where it was opened, if it is an attempt's.
pub record Opened : Type 0 where
  pub book : Book
  pub opening : Option Opening

-- A world: the books that are there, by their numbers, and the number of the next one.
pub record World : Type 0 where
  pub books : ℕ → Option Opened
  pub next : ℕ

-- A world with another book, or none, under a number.
abbrev pub with_book : ℕ → Option Opened → World → World
with_book n x w = record w { books = λ m. if m == n then x else w.books m }

-- The term with which a book began stands in one to which machines of the program come, isn't
-- passed over there, and is no mark. It is the whole of that term where a machine began with it.
pub record BeganIn (p : Program) (o : Origin) : Type 0 where
  pub around : List Frame
  pub reached : Reached p o.inner o.store (plug around o.first)
  pub through : passed around o.first ≡ false
  pub unmarked : has_stepped o.first ≡ false

-- A play begins with the root's book alone, under the number 0. It has no entry, began so, and may
-- cost so much.
pub record Starts (p : Program) (o : Origin) (fuel : ℕ) (w : World) : Type 0 where
  pub began : BeganIn p o
  pub view : Layers
  pub is_store : seen (levels_of view) ≡ o.store
  pub book : Book
  pub is_new : IsNew o.inner view o.first fuel book
  pub is_world : w
      ≡ record {
        books = λ n. if n == 0 then Some (record { book = book; opening = None }) else None;
        next = 1;
      }
