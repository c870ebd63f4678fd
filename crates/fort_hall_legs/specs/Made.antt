-- The chapter "Books" of docs/THREADS.md: what the workers of a hall make of a form.
use Rattle.std.specs.Prelude.{◌≡◌, ℕ, ◌+◌, ◌<◌, ◌≤◌, List, [], length, slice_index}
use Rattle.fort_turn.specs.Book.{entries_by}
use Rattle.fort_core.specs.declared.program.Program.{Program}
use Rattle.fort_machine.specs.Journals.{MakesWithinBounds}
use Rattle.fort_store_effects.specs.Levels.{effect_of, levels_of, seen}
use Rattle.fort_hall_law_books.specs.Books.{Origin}
use Rattle.fort_hall_law_books.specs.Legs.{Legs}
use Rattle.fort_hall_books.specs.Books.{picks_of}
use Rattle.fort_hall_books.specs.declared.book.Entry.{Entry}
use Rattle.fort_hall_program.specs.States.{pass_of}
use Rattle.fort_hall_legs.specs.declared.legs.HallForm.{HallForm}
use Rattle.fort_hall_legs.specs.declared.legs.HallLegs.{HallLegs}

-- Where the form begins that is to go on: on the store that its layers show.
abbrev pub form_origin : HallForm → Origin
form_origin f = record { inner = f.inner; store = seen (levels_of f.view); first = f.first }

-- The picks are those of some entries, one for each leg. Worker n has the pass n + 1; of each
-- worker there are as many entries as is told, and there are no others.
pub record AreOf (counts : List ℕ) (entries : List Entry) : Type 0 where
  pub own : (n : ℕ) → n < length counts
      → slice_index counts n ≡ length (entries_by pass_of (n + 1) entries)
  pub zero : entries_by pass_of 0 entries ≡ []
  pub others : (k : ℕ) → length counts < k → entries_by pass_of k entries ≡ []

-- Legs from where the form stood, by the workers' entries, that cost so much at most.
pub record IsMadeBy (p : Program) (o : Origin) (most : ℕ) (x : HallLegs) : Type 0 where
  pub entries : List Entry
  pub picks : x.closed.picks ≡ picks_of entries
  pub counts : AreOf x.legs.items entries
  pub legs : Legs p o.inner o.store o.first x.closed.picks x.closed.term
      (effect_of x.closed.done)
  pub affords : (effect_of x.closed.done).cost ≤ most
  pub bounded : MakesWithinBounds (effect_of x.closed.done)
