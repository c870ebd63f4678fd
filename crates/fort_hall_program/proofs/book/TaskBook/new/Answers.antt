use Rattle.std.proofs.Common.{rules, ◌≡◌, refl}
use Rattle.fort_hall_books.specs.Books.{IsNew}
use Rattle.fort_hall_program.proofs.Stores.{new_task_book}
use Rattle.fort_hall_program.proofs.book.TaskBook.new.Goals as goal

pub returns : goal.returns
returns c =
    let new : IsNew c.args.inner c.args.view c.args.first c.args.most c.in_ok-book.book =
    search rules in
    let same : c.get.result.now ≡ c.args.view = search rules in
    new_task_book c.args.inner c.args.view c.args.first c.args.most _ c.get.result.now
    c.in_ok-store.store new refl same c.in_ok-store.ensures
