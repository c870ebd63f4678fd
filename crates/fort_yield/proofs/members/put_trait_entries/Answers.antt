use Rattle.fort_tree.specs.Declarations.{said_trait_entry}
use Rattle.fort_yield.proofs.More.{one_more_entry}
use Rattle.fort_yield.proofs.members.put_trait_entries.Goals as goal

pub loop-entry-preserved : goal.loop-entry-preserved
loop-entry-preserved c =
    one_more_entry said_trait_entry c.args.members.now c.loop-entry.entry-index c.entry-item.result
    c.args.out.now c.loop-entry.out c.put_trait_entry.new.out c.loop-entry-test.true c.entry-item.is
    c.loop-entry.invariant c.in_ok-put_trait_entry.ensures
