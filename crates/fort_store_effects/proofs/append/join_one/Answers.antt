use Rattle.std.proofs.Common.{refl}
use Rattle.fort_store_effects.specs.declared.cell.Closing.TheVariants.{Completed}
use Rattle.fort_store_effects.proofs.Popped.{join_last}
use Rattle.fort_store_effects.proofs.append.join_one.Goals as goal

pub returns-clause-last : goal.returns-clause-last
returns-clause-last c =
    join_last Completed c.args.whole.now c.join_now.new.self c.args.cells.now c.pop.new.self
    c.in-Some.loc c.in-Some.cell c.in-Some.cell c.in-Some.ensures.entries
    c.in-Some.ensures.updates.0 c.join_now.ensures.cells refl c.join_now.ensures.output
    c.join_now.ensures.cost
