use Rattle.fort_hall_law_books.proofs.Books.{book_is_reached}
use Rattle.fort_hall_law_books.proofs.book_laws.book_is_reached.Goals as goal

pub returns : goal.returns
returns c = book_is_reached
