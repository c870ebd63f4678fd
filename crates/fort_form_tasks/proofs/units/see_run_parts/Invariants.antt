use Rattle.std.proofs.Common.{take}
use Rattle.std.specs.Prelude.{map}
use Rattle.fort_form_meaning.specs.Source.{Source}
use Rattle.fort_form_meaning.specs.Formed.{formed_run_part}
use Rattle.fort_form_tasks.specs.Tasks.{Sees}
use Rattle.fort_form_tasks.proofs.units.see_run_parts.Given as goal

abbrev pub invariant-loop-part : goal.invariant-loop-part
invariant-loop-part l = (k : Source)
    → Sees k (map (formed_run_part k) (take l.part-index l.parts)) l.initial.tasks l.tasks
