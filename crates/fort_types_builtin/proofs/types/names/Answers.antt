use Rattle.fort_types_builtin.specs.Types.{declared_spellings, type_name_of}
use Rattle.fort_types_builtin.proofs.TypeRows.{whole}
use Rattle.fort_types_builtin.proofs.types.names.Goals as goal

pub returns : goal.returns
unfolding declared_spellings
returns c =
    whole type_name_of c.table-row-items.result.now c.loop-row.row-index _ c.loop-row-test.false
    c.table-row-items.ensures.rows c.loop-row.invariant
