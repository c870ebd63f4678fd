use Rattle.fort_group.specs.Joining.{Joins, IsTheGrouping}
use Rattle.fort_group.proofs.Whole.{one_unit, none_left, none_right, both, if_ok_map}
use Rattle.fort_group.proofs.part.+part.Goals as goal

pub returns-then-from-to : goal.returns-then-from-to
returns-then-from-to t c = one_unit c.args.joints.now _ _ c.if-from-to.true

pub returns-in-None : goal.returns-in-None
returns-in-None t c =
    none_left c.args.joints.now _ _ _ c.operator_at-op.result c.weakest-at.ensures
    c.operator_at-op.ensures (rw c.in-None.is at c.in_ok-part.ensures)

pub returns-in-None-2 : goal.returns-in-None-2
returns-in-None-2 t c =
    none_right c.args.joints.now _ _ _ c.operator_at-op.result c.weakest-at.ensures
    c.operator_at-op.ensures (rw c.in-None-2.is at c.in_ok-part-in-Some.ensures)

pub returns-in-Some-2 : goal.returns-in-Some-2
returns-in-Some-2 t c =
    if_ok_map (Joins c.operator_at-op.result c.in-Some.left c.in-Some-2.right)
    (IsTheGrouping c.args.joints.now c.args.from c.args.to) c.join.result
    (λ o m. both c.args.joints.now _ _ _ c.operator_at-op.result c.in-Some.left c.in-Some-2.right o
    c.weakest-at.ensures c.operator_at-op.ensures
    (rw c.in-Some.is at c.in_ok-part.ensures) (rw c.in-Some-2.is at c.in_ok-part-in-Some.ensures) m)
    c.join.ensures
