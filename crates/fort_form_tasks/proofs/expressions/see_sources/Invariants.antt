use Rattle.std.proofs.Common.{take}
use Rattle.std.specs.Prelude.{map}
use Rattle.fort_form_meaning.specs.Source.{Source}
use Rattle.fort_form_tasks.specs.Tasks.{Sees, next_source}
use Rattle.fort_form_tasks.proofs.expressions.see_sources.Given as goal

abbrev pub invariant-loop-next : goal.invariant-loop-next
invariant-loop-next l = (k : Source)
    → Sees k (map (next_source k) (take l.next-index l.others)) l.initial.tasks l.tasks
