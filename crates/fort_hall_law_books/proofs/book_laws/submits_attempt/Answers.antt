use Rattle.fort_hall_law_books.proofs.Books.{submits_attempt}
use Rattle.fort_hall_law_books.proofs.book_laws.submits_attempt.Goals as goal

pub returns : goal.returns
returns c = submits_attempt
