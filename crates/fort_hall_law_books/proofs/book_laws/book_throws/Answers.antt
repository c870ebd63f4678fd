use Rattle.fort_hall_law_books.proofs.Books.{book_throws}
use Rattle.fort_hall_law_books.proofs.book_laws.book_throws.Goals as goal

pub returns : goal.returns
returns c = book_throws
