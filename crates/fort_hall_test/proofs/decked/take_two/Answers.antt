use Rattle.fort_deck.specs.Decks.{left_of}
use Rattle.fort_hall_test.specs.Jobs.{job}
use Rattle.fort_hall_test.proofs.Settled.{two_nexts}
use Rattle.fort_hall_test.proofs.decked.take_two.Goals as goal

pub returns : goal.returns
returns c =
    two_nexts (job 2) (left_of c.args.rest) (left_of c.next-left.new.self)
    (left_of c.next-end.new.self) c.next-left.result c.next-end.result c.requires
    c.next-left.ensures c.next-end.ensures
