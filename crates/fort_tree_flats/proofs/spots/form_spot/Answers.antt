use Rattle.std.proofs.Common.{sym, ap, ◌∙◌}
use Rattle.fort_tree.specs.declared.delimited.Delimited.{Delimited}
use Rattle.fort_tree.specs.Measured.{Measured}
use Rattle.fort_tree.specs.Measuring.{measured_delimited}
use Rattle.fort_tree.proofs.MeasuresBlocks.{measures-Do, measures-If, measures-While, measures-For, measures-Case, measures-Typecase, measures-Try}
use Rattle.fort_tree_flats.proofs.spots.form_spot.Goals as goal

pub returns-in-Do : goal.returns-in-Do
returns-in-Do c =
    sym (ap (λ (f : Delimited). (measured_delimited f).spot) c.in-Do.is ∙ ap (λ
    (m : Measured). m.spot) (measures-Do _ _ _ _))

pub returns-in-If : goal.returns-in-If
returns-in-If c =
    sym (ap (λ (f : Delimited). (measured_delimited f).spot) c.in-If.is ∙ ap (λ
    (m : Measured). m.spot) (measures-If _ _ _ _ _ _ _))

pub returns-in-While : goal.returns-in-While
returns-in-While c =
    sym (ap (λ (f : Delimited). (measured_delimited f).spot) c.in-While.is ∙ ap (λ
    (m : Measured). m.spot) (measures-While _ _ _ _ _))

pub returns-in-For : goal.returns-in-For
returns-in-For c =
    sym (ap (λ (f : Delimited). (measured_delimited f).spot) c.in-For.is ∙ ap (λ
    (m : Measured). m.spot) (measures-For _ _ _ _ _ _))

pub returns-in-Case : goal.returns-in-Case
returns-in-Case c =
    sym (ap (λ (f : Delimited). (measured_delimited f).spot) c.in-Case.is ∙ ap (λ
    (m : Measured). m.spot) (measures-Case _ _ _ _ _ _))

pub returns-in-Typecase : goal.returns-in-Typecase
returns-in-Typecase c =
    sym (ap (λ (f : Delimited). (measured_delimited f).spot) c.in-Typecase.is ∙ ap (λ
    (m : Measured). m.spot) (measures-Typecase _ _ _ _ _ _ _ _))

pub returns-in-Try : goal.returns-in-Try
returns-in-Try c =
    sym (ap (λ (f : Delimited). (measured_delimited f).spot) c.in-Try.is ∙ ap (λ
    (m : Measured). m.spot) (measures-Try _ _ _ _ _))
