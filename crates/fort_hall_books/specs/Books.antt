-- The chapter "Books" of docs/THREADS.md: the code's book as the machine's.
use Rattle.std.specs.Prelude.{◌≡◌, ℕ, ◌≤◌, Bool, List, [], ◌∷◌, ◌++◌}
use Rattle.fort_core.specs.declared.pick.Pick.{Pick}
use Rattle.fort_core.specs.declared.program.Program.{Program}
use Rattle.fort_core.specs.declared.term.Term.{Term}
use Rattle.fort_machine.specs.Effects.{Store, Effect, idle}
use Rattle.fort_machine.specs.Journals.{MakesWithinBounds}
use Rattle.fort_store_effects.specs.Levels.{effect_of, levels_of, seen}
use Rattle.fort_store_effects.specs.declared.layers.Layers.{Layers}
use Rattle.fort_hall_law_books.specs.Books.{Origin, store_after}
use Rattle.fort_hall_law_books.specs.Legs.{Legs}
use Rattle.fort_hall_books.specs.declared.book.Book.{Book}
use Rattle.fort_hall_books.specs.declared.book.Closed.{Closed}
use Rattle.fort_hall_books.specs.declared.book.Entry.{Entry}

-- Where a book began.
abbrev pub origin_of : Book → Origin
origin_of x = record { inner = x.inner; store = seen (levels_of x.view); first = x.first }

-- What its legs did.
abbrev pub did : Book → Effect
did x = effect_of x.done

-- The store to which it has come.
abbrev pub store_of : Book → Store
store_of x = store_after (origin_of x) (did x)

-- The picks of entries, in a row.
abbrev pub picks_of : List Entry → List Pick
picks_of [] = []
picks_of (e ∷ es) = e.picks ++ picks_of es

-- A book is kept: its entries are legs from where it began to its term, which did what it says,
-- within its bound.
pub record IsKept (p : Program) (x : Book) : Type 0 where
  pub legs : Legs p x.inner (seen (levels_of x.view)) x.first (picks_of x.entries) x.term (did x)
  pub affords : (did x).cost ≤ x.most
  pub bounded : MakesWithinBounds (did x)

-- A book without a leg, that began so, did nothing yet, and may cost so much.
pub record IsNew (inner : Bool) (view : Layers) (first : Term) (most : ℕ) (x : Book) : Type 0 where
  pub origin : origin_of x ≡ record { inner = inner; store = seen (levels_of view); first = first }
  pub bound : x.most ≡ most
  pub entries : x.entries ≡ []
  pub effect : did x ≡ idle
  pub kept : (p : Program) → IsKept p x

-- It is the same book: it began so, and may cost so much.
pub record IsSame (old new : Book) : Type 0 where
  pub origin : origin_of new ≡ origin_of old
  pub bound : new.most ≡ old.most

-- What a book hands out in the end: its layers, and the legs over them.
pub record IsClosed (p : Program) (x : Book) (c : Closed) : Type 0 where
  pub view : c.view ≡ x.view
  pub picks : c.picks ≡ picks_of x.entries
  pub done : effect_of c.done ≡ did x
  pub legs : Legs p x.inner (seen (levels_of c.view)) x.first c.picks c.term (effect_of c.done)
  pub affords : (effect_of c.done).cost ≤ x.most
  pub bounded : MakesWithinBounds (effect_of c.done)
