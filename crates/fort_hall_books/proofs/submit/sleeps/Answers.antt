use Rattle.std.proofs.Common.{◌≡◌, Some, rules}
use Rattle.fort_hall_books.specs.declared.leg.Kind.TheVariants as kind
use Rattle.fort_hall_books.proofs.Suits.{asleep_is}
use Rattle.fort_hall_books.proofs.submit.sleeps.Goals as goal

pub returns-in-Attempt-Some : goal.returns-in-Attempt-Some
returns-in-Attempt-Some c =
    let is : c.args.kind.now ≡ kind.Attempt (Some c.in-Attempt-Some.marks) = search rules in
    asleep_is _ _ _ _ is c.unchanged.ensures
