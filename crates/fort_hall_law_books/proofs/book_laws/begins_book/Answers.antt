use Rattle.fort_hall_law_books.proofs.Books.{begins_book}
use Rattle.fort_hall_law_books.proofs.book_laws.begins_book.Goals as goal

pub returns : goal.returns
returns c = begins_book
