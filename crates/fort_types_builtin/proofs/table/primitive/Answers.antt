use Rattle.std.proofs.Common.{◌∙◌}
use Rattle.fort_types_builtin.proofs.DeclarationRows.{next_taken}
use Rattle.fort_types_builtin.proofs.table.primitive.Goals as goal

pub loop-row-preserved : goal.loop-row-preserved
loop-row-preserved c =
    next_taken c.args.name.now c.args.width c.table-row-items.result.now c.loop-row.row-index
    c.loop-row.left _ c.is_of.result c.loop-row-test.true c.is_of.ensures c.if-not-is_of.false
    c.if-left-eq0.false
    ∙ c.loop-row.invariant
