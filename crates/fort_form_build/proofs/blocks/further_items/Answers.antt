use Rattle.fort_form_tasks.specs.Tasks.{item_value}
use Rattle.fort_form_build.specs.Taking.{entry_item}
use Rattle.fort_form_build.proofs.Giving.{none_yet, one_more, all_made}
use Rattle.fort_form_build.proofs.blocks.further_items.Goals as goal

pub loop-entry-init : goal.loop-entry-init
loop-entry-init g c = let k = g.L.Lookup.source c.args.lookup.now in
    none_yet (item_value k) (entry_item k) c.args.entries.now _ c.new-made.ensures

pub loop-entry-preserved : goal.loop-entry-preserved
loop-entry-preserved g c = let k = g.L.Lookup.source c.args.lookup.now in
    one_more (item_value k) (entry_item k) c.args.entries.now c.loop-entry.entry-index
    c.entry-item.result c.loop-entry-test.true c.entry-item.is c.loop-entry.invariant
    c.in_ok-next_item.ensures c.in_ok-push.ensures.ok

pub returns : goal.returns
returns g c = let k = g.L.Lookup.source c.args.lookup.now in
    all_made (item_value k) (entry_item k) c.args.entries.now c.loop-entry.entry-index
    c.loop-entry-test.false c.loop-entry.invariant
