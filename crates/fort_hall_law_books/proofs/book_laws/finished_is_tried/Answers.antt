use Rattle.fort_hall_law_books.proofs.Books.{finished_is_tried}
use Rattle.fort_hall_law_books.proofs.book_laws.finished_is_tried.Goals as goal

pub returns : goal.returns
returns c = finished_is_tried
