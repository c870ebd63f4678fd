use Rattle.fort_hall_law_books.proofs.Books.{submits_steps}
use Rattle.fort_hall_law_books.proofs.book_laws.submits_steps.Goals as goal

pub returns : goal.returns
returns c = submits_steps
