use Rattle.std.proofs.Common.{sym, ap, ◌∙◌}
use Rattle.fort_tree.specs.declared.expr.FlatPart.{FlatPart}
use Rattle.fort_tree.specs.declared.grouped.Joint.TheVariants.{Behind}
use Rattle.fort_tree.specs.declared.spot.Spot.{Spot}
use Rattle.fort_tree.specs.Measured.{Joined}
use Rattle.fort_tree.specs.Measuring.{measured_flat_part}
use Rattle.fort_tree.proofs.MeasuresFlats.{measures-Run, measures-Infix}
use Rattle.fort_tree_flats.proofs.laid.joint.Goals as goal

pub returns-in-Run : goal.returns-in-Run
returns-in-Run c =
    sym (ap (λ (p : FlatPart). (measured_flat_part p).joint) c.in-Run.is ∙ ap (λ
    (j : Joined). j.joint) (measures-Run _))

pub returns-in-Infix : goal.returns-in-Infix
returns-in-Infix c =
    ap (λ (s : Spot). Behind c.in-Infix.sign s.gap) c.unit_spot.ensures
    ∙ sym (ap (λ (p : FlatPart). (measured_flat_part p).joint) c.in-Infix.is ∙ ap (λ
    (j : Joined). j.joint) (measures-Infix c.in-Infix.sign c.in-Infix.unit))
