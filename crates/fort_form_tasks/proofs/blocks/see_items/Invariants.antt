use Rattle.std.proofs.Common.{take}
use Rattle.std.specs.Prelude.{map}
use Rattle.fort_form_meaning.specs.Source.{Source}
use Rattle.fort_form_tasks.specs.Tasks.{Sees, item_value}
use Rattle.fort_form_tasks.proofs.blocks.see_items.Given as goal

abbrev pub invariant-loop-entry : goal.invariant-loop-entry
invariant-loop-entry l = (k : Source)
    → Sees k (map (item_value k) (take l.entry-index l.items)) l.initial.tasks l.tasks
