-- The chapter "Books" of docs/THREADS.md: what a kept book is, and what it has printed.
use Rattle.std.specs.Prelude.{◌≡◌}
use mathlib.Core.List.{IsPrefix}
use Rattle.fort_core.specs.declared.program.Program.{Program}
use Rattle.fort_machine.specs.Attempts.{goes}
use Rattle.fort_machine.specs.Proper.{Reached}
use Rattle.fort_hall_law_books.specs.Books.{IsBook}
use Rattle.fort_hall_books.specs.declared.book.Book.{Book}
use Rattle.fort_hall_books.specs.Books.{origin_of, did, picks_of, IsKept}

-- A kept book whose origin machines of the program come to is a book.
abbrev pub KeptIsBook : Type 0
KeptIsBook = (p : Program) (x : Book) → IsKept p x
    → (let o = origin_of x in Reached p o.inner o.store o.first)
    → IsBook p (origin_of x) (picks_of x.entries) (goes x.term) (did x)

-- A kept book that goes on from another one has all the output of that one first.
abbrev pub BookGrows : Type 0
BookGrows = (p : Program) (a b : Book) → IsKept p a → IsKept p b → origin_of b ≡ origin_of a
    → IsPrefix a.entries b.entries → IsPrefix (did a).output (did b).output
