use Rattle.std.proofs.Common.{take}
use Rattle.std.specs.Prelude.{map}
use Rattle.fort_form_meaning.specs.Source.{Source}
use Rattle.fort_form_meaning.specs.Formed.{formed_next_expr}
use Rattle.fort_form_tasks.specs.Tasks.{Sees}
use Rattle.fort_form_tasks.proofs.units.see_next_exprs.Given as goal

abbrev pub invariant-loop-next : goal.invariant-loop-next
invariant-loop-next l = (k : Source)
    → Sees k (map (formed_next_expr k) (take l.next-index l.exprs)) l.initial.tasks l.tasks
