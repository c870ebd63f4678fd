use Rattle.std.proofs.Common.{sym, ap, ◌∙◌}
use Rattle.fort_form_meaning.specs.Formed.{formed_flat_part}
use Rattle.fort_form_meaning.proofs.FormsFlats.{forms-Infix, forms-Run}
use Rattle.fort_form_tasks.proofs.units.further_unit.Goals as goal

pub returns-in-Run : goal.returns-in-Run
returns-in-Run c = λ k. sym (ap (formed_flat_part k) c.in-Run.is ∙ forms-Run k _)

pub returns-in-Infix : goal.returns-in-Infix
returns-in-Infix c = λ k. sym (ap (formed_flat_part k) c.in-Infix.is ∙ forms-Infix k _ _)
