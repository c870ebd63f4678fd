use Rattle.fort_hall_law_books.proofs.Books.{book_completes}
use Rattle.fort_hall_law_books.proofs.book_laws.book_completes.Goals as goal

pub returns : goal.returns
returns c = book_completes
