use Rattle.std.proofs.Common.{sym, ◌∙◌}
use Rattle.fort_form_tasks.proofs.UnitAt.{unit_there, unit_missing}
use Rattle.fort_form_tasks.proofs.units.unit.Goals as goal

pub returns-in-Some : goal.returns-in-Some
returns-in-Some c =
    λ k. c.further_unit.ensures k
    ∙ sym (unit_there k _ _ c.args.number c.in-Some.part.now c.if-number-eq0.false
    (sym c.in-Some.ensures.value))

pub returns-in-None : goal.returns-in-None
returns-in-None c =
    λ k. sym (unit_missing k _ _ c.args.number c.if-number-eq0.false (sym c.in-None.ensures.value))
