use Rattle.std.proofs.Common.{◌+◌, take, refl, sym, subst}
use Rattle.fort_group.specs.Components.{HasGroups}
use Rattle.fort_group.proofs.Each.{one_more, stopped, answered}
use Rattle.fort_group.proofs.components.group_each.Goals as goal

pub returns-in_err-grouped : goal.returns-in_err-grouped
returns-in_err-grouped c =
    answered c.args.rows.now c.from_residual.result c.in_err-grouped.field-0.0
    c.from_residual.ensures.0 c.from_residual.ensures.1
    (stopped c.args.rows.now c.loop-row.row-index c.row-item.result c.loop-row.list
    c.loop-row-test.true c.row-item.is c.loop-row.invariant c.in_err-grouped.field-0.0
    c.in_err-grouped.ensures)

pub loop-row-preserved : goal.loop-row-preserved
loop-row-preserved c =
    subst (λ groups. HasGroups (take (c.loop-row.row-index + 1) c.args.rows.now) groups)
    (sym c.in_ok-push.ensures.ok)
    (one_more c.args.rows.now c.loop-row.row-index c.row-item.result c.loop-row.list _
    c.loop-row-test.true c.row-item.is c.loop-row.invariant refl c.in_ok-grouped.ensures)
