use Rattle.std.proofs.Common.{take}
use Rattle.std.specs.Prelude.{map}
use Rattle.fort_form_meaning.specs.Source.{Source}
use Rattle.fort_form_meaning.specs.Formed.{formed_also}
use Rattle.fort_form_tasks.specs.Tasks.{Sees}
use Rattle.fort_form_tasks.proofs.blocks.see_alsos.Given as goal

abbrev pub invariant-loop-also : goal.invariant-loop-also
invariant-loop-also l = (k : Source)
    → Sees k (map (formed_also k) (take l.also-index l.others)) l.initial.tasks l.tasks
