use Rattle.fort_hall_books.proofs.Books.{book_grows}
use Rattle.fort_hall_books.proofs.laws.book_grows.Goals as goal

pub returns : goal.returns
returns c = book_grows
