use Rattle.std.proofs.Common.{sym, ap, ◌∙◌}
use Rattle.fort_tree.specs.declared.delimited.Delimited.{Delimited}
use Rattle.fort_tree.specs.declared.expr.Atom.{Atom}
use Rattle.fort_tree.specs.declared.expr.FillSpots.{FillSpots}
use Rattle.fort_tree.specs.Measured.{Measured}
use Rattle.fort_tree.specs.Measuring.{measured_atom, measured_delimited}
use Rattle.fort_tree.proofs.MeasuresFlats.{measures-Name, measures-Number, measures-Text, measures-True, measures-False, measures-Self_, measures-Parens, measures-Delimited, measures-ArrayFill}
use Rattle.fort_tree_flats.proofs.spots.atom_spot.Goals as goal

pub returns-in-Name : goal.returns-in-Name
returns-in-Name c =
    sym (ap (λ (a : Atom). (measured_atom a).spot) c.in-Name.is ∙ ap (λ
    (m : Measured). m.spot) (measures-Name _))

pub returns-in-Number : goal.returns-in-Number
returns-in-Number c =
    sym (ap (λ (a : Atom). (measured_atom a).spot) c.in-Number.is ∙ ap (λ
    (m : Measured). m.spot) (measures-Number _ _))

pub returns-in-Text : goal.returns-in-Text
returns-in-Text c =
    sym (ap (λ (a : Atom). (measured_atom a).spot) c.in-Text.is ∙ ap (λ
    (m : Measured). m.spot) (measures-Text _ _))

pub returns-in-True : goal.returns-in-True
returns-in-True c =
    sym (ap (λ (a : Atom). (measured_atom a).spot) c.in-True.is ∙ ap (λ
    (m : Measured). m.spot) (measures-True _))

pub returns-in-False : goal.returns-in-False
returns-in-False c =
    sym (ap (λ (a : Atom). (measured_atom a).spot) c.in-False.is ∙ ap (λ
    (m : Measured). m.spot) (measures-False _))

pub returns-in-Self_ : goal.returns-in-Self_
returns-in-Self_ c =
    sym (ap (λ (a : Atom). (measured_atom a).spot) c.in-Self_.is ∙ ap (λ
    (m : Measured). m.spot) (measures-Self_ _))

pub returns-in-Parens : goal.returns-in-Parens
returns-in-Parens c =
    sym (ap (λ (a : Atom). (measured_atom a).spot) c.in-Parens.is ∙ ap (λ
    (m : Measured). m.spot) (measures-Parens _ _ _))

pub returns-in-Delimited : goal.returns-in-Delimited
returns-in-Delimited c =
    c.form_spot.ensures ∙ ap (λ
    (f : Delimited). (measured_delimited f).spot) c.get.ensures
    ∙ sym (ap (λ (a : Atom). (measured_atom a).spot) c.in-Delimited.is ∙ ap (λ
    (m : Measured). m.spot) (measures-Delimited _))

pub returns-in-ArrayFill : goal.returns-in-ArrayFill
returns-in-ArrayFill c =
    ap (λ (s : FillSpots). s.array) c.get-in-ArrayFill.ensures
    ∙ sym (ap (λ (a : Atom). (measured_atom a).spot) c.in-ArrayFill.is ∙ ap (λ
    (m : Measured). m.spot) (measures-ArrayFill _ _ _ _))
