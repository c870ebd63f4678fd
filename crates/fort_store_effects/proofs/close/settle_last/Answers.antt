use Rattle.fort_store_effects.proofs.Popped.{suits_here, settle_last}
use Rattle.fort_store_effects.proofs.close.settle_last.Goals as goal

pub settle-requires : goal.settle-requires
settle-requires c =
    suits_here c.args.closing c.args.store.now c.args.cells.now c.pop.new.self c.in-Some.loc
    c.in-Some.cell c.closed-closed.result c.in-Some.ensures.entries c.in-Some.ensures.updates.0
    c.closed-closed.ensures c.requires.suits

pub returns : goal.returns
returns c =
    settle_last c.args.closing c.args.store.now c.settle.new.store c.args.cells.now c.pop.new.self
    c.in-Some.loc c.in-Some.cell c.closed-closed.result c.in-Some.ensures.entries
    c.in-Some.ensures.updates.0 c.in_ok-settle-in-Some.ensures.ok
    c.closed-closed.ensures c.requires.suits
