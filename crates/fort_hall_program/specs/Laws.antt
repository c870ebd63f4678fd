-- The chapter "Books" of docs/THREADS.md: what a book has printed grows.
use Rattle.std.specs.Prelude.{◌≡◌, ℕ}
use mathlib.Core.List.{IsPrefix}
use Rattle.fort_core.specs.declared.program.Program.{Program}
use Rattle.fort_hall_books.specs.Books.{origin_of, did}
use Rattle.fort_hall_books.proofs.Books.{book_grows}
use Rattle.fort_hall_program.specs.States.{IsBookOf}
use Rattle.fort_hall_program.specs.declared.book.TaskBook.{TaskBook}

-- A book that goes on from another one has all the output of that one first.
pub grows : (p : Program) (most : ℕ) (a b : TaskBook) → IsBookOf p most a → IsBookOf p most b
    → origin_of b.book ≡ origin_of a.book → IsPrefix a.book.entries b.book.entries
    → IsPrefix (did a.book).output (did b.book).output
grows p most a b k n same prefix = book_grows p a.book b.book k.kept n.kept same prefix
