use Rattle.fort_deck.specs.Decks.{stack_of, thieves_of}
use Rattle.fort_hall_test.proofs.Settled.{none_stolen}
use Rattle.fort_hall_test.proofs.decked.own.Goals as goal

pub unreachable-requires : goal.unreachable-requires
unreachable-requires c =
    none_stolen (stack_of c.args.owner.now) (thieves_of c.args.owner.now) c.requires.1 c.requires.2
    c.in_default.ensures.cause
