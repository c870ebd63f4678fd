use Rattle.fort_hall_law_books.proofs.Books.{output_grows}
use Rattle.fort_hall_law_books.proofs.book_laws.output_grows.Goals as goal

pub returns : goal.returns
returns c = output_grows
