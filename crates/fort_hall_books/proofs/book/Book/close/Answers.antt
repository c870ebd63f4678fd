use Rattle.std.proofs.Common.{refl}
use Rattle.fort_hall_books.proofs.Books.{closed}
use Rattle.fort_hall_books.proofs.book.Book.close.Goals as goal

pub returns : goal.returns
returns c =
    closed c.args.program.now c.args.self _ c.requires refl c.in_ok-picks.ensures refl refl
