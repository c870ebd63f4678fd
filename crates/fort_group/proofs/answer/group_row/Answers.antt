use Rattle.std.proofs.Common.{sym, ap, ◌∙◌}
use Rattle.fort_group.specs.declared.spacing.Spaced.{Spaced}
use Rattle.fort_group.specs.Walks.{spaced}
use Rattle.fort_group.proofs.Rules.{is_true, is_false, mixed, none_there, contradicts, senseless, whole}
use Rattle.fort_group.proofs.answer.group_row.Goals as goal

pub returns-in-Some : goal.returns-in-Some
returns-in-Some c = mixed c.args.row.now _ (rw c.as_slice-joints.ensures at c.in-Some.ensures)

pub returns-in-None : goal.returns-in-None
returns-in-None c =
    none_there c.args.row.now (rw c.as_slice-joints.ensures at c.in_default.ensures)
    (rw c.as_slice-joints.ensures at (rw c.in-None.is at c.in_ok-part.ensures))

pub returns-then-not-spacing_of : goal.returns-then-not-spacing_of
returns-then-not-spacing_of c =
    contradicts c.args.row.now c.in-Some-2.tree
    (rw c.as_slice-joints.ensures at c.in_default.ensures)
    (rw c.as_slice-joints.ensures at (rw c.in-Some-2.is at c.in_ok-part.ensures))
    (ap (λ (s : Spaced). s.good)
    (ap (λ js. spaced js c.in-Some-2.tree) (sym c.as_slice-joints.ensures)
    ∙ sym c.spacing_of.ensures) ∙ is_false _ c.if-not-spacing_of.true)

pub returns-then-not-is_sensible : goal.returns-then-not-is_sensible
returns-then-not-is_sensible c =
    senseless c.args.row.now c.in-Some-2.tree (rw c.as_slice-joints.ensures at c.in_default.ensures)
    (rw c.as_slice-joints.ensures at (rw c.in-Some-2.is at c.in_ok-part.ensures))
    (ap (λ (s : Spaced). s.good)
    (ap (λ js. spaced js c.in-Some-2.tree) (sym c.as_slice-joints.ensures)
    ∙ sym c.spacing_of.ensures)
    ∙ is_true _ c.if-not-spacing_of.false) (sym c.is_sensible.ensures
    ∙ c.if-not-is_sensible.true)

pub returns-else-not-is_sensible : goal.returns-else-not-is_sensible
returns-else-not-is_sensible c =
    whole c.args.row.now c.in-Some-2.tree (rw c.as_slice-joints.ensures at c.in_default.ensures)
    (rw c.as_slice-joints.ensures at (rw c.in-Some-2.is at c.in_ok-part.ensures))
    (ap (λ (s : Spaced). s.good)
    (ap (λ js. spaced js c.in-Some-2.tree) (sym c.as_slice-joints.ensures)
    ∙ sym c.spacing_of.ensures)
    ∙ is_true _ c.if-not-spacing_of.false) (sym c.is_sensible.ensures
    ∙ c.if-not-is_sensible.false)
