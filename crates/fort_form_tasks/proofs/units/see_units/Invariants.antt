use Rattle.std.proofs.Common.{take}
use Rattle.std.specs.Prelude.{map}
use Rattle.fort_form_meaning.specs.Source.{Source}
use Rattle.fort_form_tasks.specs.Tasks.{Sees, formed_unit}
use Rattle.fort_form_tasks.proofs.units.see_units.Given as goal

abbrev pub invariant-loop-unit : goal.invariant-loop-unit
invariant-loop-unit l = (k : Source)
    → Sees k (map (formed_unit k l.flat) (take l.unit-index l.units)) l.initial.tasks l.tasks
