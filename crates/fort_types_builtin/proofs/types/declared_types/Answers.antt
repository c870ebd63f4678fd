use Rattle.fort_types_builtin.specs.Types.{built_in_declared, declared_by_row}
use Rattle.fort_types_builtin.proofs.TypeRows.{whole}
use Rattle.fort_types_builtin.proofs.types.declared_types.Goals as goal

pub returns : goal.returns
unfolding built_in_declared
returns c =
    whole declared_by_row c.table-row-items.result.now c.loop-row.row-index _ c.loop-row-test.false
    c.table-row-items.ensures.rows c.loop-row.invariant
