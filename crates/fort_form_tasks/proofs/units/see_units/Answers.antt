use Rattle.fort_form_tasks.specs.Tasks.{formed_unit}
use Rattle.fort_form_tasks.proofs.Steps.{one_number}
use Rattle.fort_form_tasks.proofs.units.see_units.Goals as goal

pub loop-unit-preserved : goal.loop-unit-preserved
loop-unit-preserved c =
    λ k. one_number k (formed_unit k c.args.flat.now) c.args.units.now c.loop-unit.unit-index _
    c.loop-unit-test.true (c.loop-unit.invariant k) (c.in_ok-see_unit.ensures k)
