use Rattle.std.proofs.Common.{◌≡◌, ap, sym, ◌∙◌, subst}
use Rattle.std.specs.Prelude.{Ok}
use Rattle.fort_hall_machine.specs.Words.{OneMore}
use Rattle.fort_hall_books.specs.Books.{origin_of}
use Rattle.fort_hall_books.specs.declared.book.Book.{Book}
use Rattle.fort_hall_books.specs.declared.leg.Answer.{Answer}
use Rattle.fort_hall_program.specs.States.{HasAppended, pass_of}
use Rattle.fort_hall_program.proofs.submit.submit.Goals as goal

pub returns-in-Done-clause-origin : goal.returns-in-Done-clause-origin
returns-in-Done-clause-origin c =
    ap origin_of c.after-left.ensures.same ∙ c.in_ok-_why.ensures.origin

pub returns-in-Done-clause-history : goal.returns-in-Done-clause-history
returns-in-Done-clause-history c =
    let old = c.args.book.now.book.entries in
    let next = c.append.new.book.book in
    let more : OneMore pass_of c.args.pass old next.entries =
    subst (λ (a : Answer). HasAppended c.args.pass old (Ok a) next.entries) c.in-Done.is
    c.in_ok-_why.ensures.history in
    subst (λ (b : Book). OneMore pass_of c.args.pass old b.entries) (sym c.after-left.ensures.same)
    more

pub returns-in-Stale-clause-origin : goal.returns-in-Stale-clause-origin
returns-in-Stale-clause-origin c =
    ap origin_of c.refused-again.ensures.same ∙ c.in_ok-_why.ensures.origin

pub returns-in-Stale-clause-history : goal.returns-in-Stale-clause-history
returns-in-Stale-clause-history c =
    let old = c.args.book.now.book.entries in
    let next = c.append.new.book.book in
    let still : next.entries ≡ old =
    subst (λ (a : Answer). HasAppended c.args.pass old (Ok a) next.entries) c.in-Stale.is
    c.in_ok-_why.ensures.history in
    ap (λ (b : Book). b.entries) c.refused-again.ensures.same ∙ still
