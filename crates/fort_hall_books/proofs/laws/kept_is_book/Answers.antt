use Rattle.fort_hall_books.proofs.Books.{kept_is_book}
use Rattle.fort_hall_books.proofs.laws.kept_is_book.Goals as goal

pub returns : goal.returns
returns c = kept_is_book
