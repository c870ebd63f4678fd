use Rattle.std.proofs.Common.{take}
use Rattle.std.specs.List.{flat_map}
use Rattle.fort_form_meaning.specs.Source.{Source}
use Rattle.fort_form_tasks.specs.Tasks.{Sees, inside_elif}
use Rattle.fort_form_tasks.proofs.blocks.see_in_elifs.Given as goal

abbrev pub invariant-loop-elif : goal.invariant-loop-elif
invariant-loop-elif l = (k : Source)
    → Sees k (flat_map (inside_elif k) (take l.elif-index l.elifs)) l.initial.tasks l.tasks
