use Rattle.std.proofs.Common.{◌≡◌, ◌+◌, ◌<◌, ◌≤◌, refl, arith, rules}
use Rattle.fort_hall_books.proofs.Books.{appended, popped, stays_kept}
use Rattle.fort_hall_books.proofs.book.Book.append.Goals as goal

pub append-requires : goal.append-requires
append-requires c =
    let x = c.args.self.now in
    let most : x.most < 18446744073709551616 = search rules in
    omega (arith, c.requires.suits.affords, most)

pub returns-in-Ok-clause-kept : goal.returns-in-Ok-clause-kept
returns-in-Ok-clause-kept c =
    let x = c.args.self.now in
    appended c.args.program.now x _ c.args.leg c.args.whole c.args.pass c.in_ok-picks.picks
    c.requires.kept c.requires.leg c.requires.put c.requires.suits refl refl refl refl
    c.in_ok-picks.ensures c.in_ok-push.ensures.ok c.replace.ensures.after
    c.in-Ok.ensures.ok

pub returns-in-Err-clause-kept : goal.returns-in-Err-clause-kept
returns-in-Err-clause-kept c =
    let x = c.args.self.now in
    stays_kept c.args.program.now x _ c.requires.kept refl refl refl refl
    (popped x.entries c.pop.new.self _ _ c.pop.result c.in_ok-push.ensures.ok c.pop.ensures) refl
    c.in-Err.ensures.err
