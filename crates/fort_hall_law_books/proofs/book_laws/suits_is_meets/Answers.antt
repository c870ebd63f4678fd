use Rattle.fort_hall_law_books.proofs.Books.{suits_is_meets}
use Rattle.fort_hall_law_books.proofs.book_laws.suits_is_meets.Goals as goal

pub returns : goal.returns
returns c = suits_is_meets
