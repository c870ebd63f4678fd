use Rattle.fort_hall_law_books.proofs.Books.{opens_book}
use Rattle.fort_hall_law_books.proofs.book_laws.opens_book.Goals as goal

pub returns : goal.returns
returns c = opens_book
