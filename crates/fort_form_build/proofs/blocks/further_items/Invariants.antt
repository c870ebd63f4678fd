use Rattle.fort_form_tasks.specs.Tasks.{item_value}
use Rattle.fort_form_build.specs.Taking.{entry_item}
use Rattle.fort_form_build.proofs.Giving.{Made}
use Rattle.fort_form_build.proofs.blocks.further_items.Given as goal

abbrev pub invariant-loop-entry : goal.invariant-loop-entry
invariant-loop-entry g l =
    Made (item_value (g.L.Lookup.source l.lookup)) (entry_item (g.L.Lookup.source l.lookup))
    l.entries l.entry-index l.initial.forms l.forms l.made
