use Rattle.std.proofs.Common.{refl}
use Rattle.fort_hall_books.proofs.Books.{new_book}
use Rattle.fort_hall_books.proofs.book.Book.new.Goals as goal

pub returns : goal.returns
returns c =
    new_book c.args.inner c.args.view c.args.first c.args.most _ refl refl refl refl
    c.new.ensures c.new-2.ensures c.in_ok-term.ensures
