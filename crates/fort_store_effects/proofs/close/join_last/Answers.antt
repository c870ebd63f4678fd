use Rattle.fort_store_effects.proofs.Popped.{join_last}
use Rattle.fort_store_effects.proofs.close.join_last.Goals as goal

pub returns : goal.returns
returns c =
    join_last c.args.closing c.args.whole.now c.join.new.self c.args.cells.now c.pop.new.self
    c.in-Some.loc c.in-Some.cell c.closed-closed.result c.in-Some.ensures.entries
    c.in-Some.ensures.updates.0 c.in_ok-join-in-Some.ensures.ok
    c.closed-closed.ensures c.join.ensures.output c.join.ensures.cost
