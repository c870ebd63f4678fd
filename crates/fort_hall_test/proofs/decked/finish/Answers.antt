use Rattle.std.proofs.Common.{◌≡◌, [], ◌∷◌, length, Some, ap, arith}
use Rattle.fort_deck.specs.Decks.{stack_of, number_of, stolen_by, left_of}
use Rattle.fort_hall_test.specs.Jobs.{job}
use Rattle.fort_hall_test.proofs.Settled.{row_known}
use Rattle.fort_hall_test.proofs.decked.finish.Goals as goal

pub take_two-left-requires : goal.take_two-left-requires
take_two-left-requires c =
    let rest = c.in-Some.rest in
    let one : length (left_of rest) ≡ 1 =
    (let n = c.in-Some.ensures.count in let p = c.requires.owner.2 in let o = c.requires.owner.3
    in omega (arith, ap length c.requires.thief.2)) in
    (row_known c.args.stolen (stack_of c.args.owner) (stolen_by c.args.thief) (left_of rest)
    (number_of c.args.thief) c.requires.owner.4 c.in-Some.ensures.order c.requires.thief.1
    c.requires.thief.2 one).1

pub returns-in-Some : goal.returns-in-Some
returns-in-Some c =
    let rest = c.in-Some.rest in
    let one : length (left_of rest) ≡ 1 =
    (let n = c.in-Some.ensures.count in let p = c.requires.owner.2 in let o = c.requires.owner.3
    in omega (arith, ap length c.requires.thief.2)) in
    let known =
    row_known c.args.stolen (stack_of c.args.owner) (stolen_by c.args.thief) (left_of rest)
    (number_of c.args.thief) c.requires.owner.4 c.in-Some.ensures.order c.requires.thief.1
    c.requires.thief.2 one in
    let two = c.take_two-left.ensures in
    λ i. record { owned = c.requires.owned i; stolen = known.0 i; left = two.0 i; end = two.1 i }
