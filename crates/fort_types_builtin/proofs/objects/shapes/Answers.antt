use Rattle.fort_types_builtin.proofs.TypeRows.{shapes_whole}
use Rattle.fort_types_builtin.proofs.objects.shapes.Goals as goal

pub returns : goal.returns
returns c =
    shapes_whole c.table-row-items.result.now c.loop-row.row-index c.loop-row.place c.args.first.0
    c.loop-row.shapes c.loop-row-test.false c.table-row-items.ensures.rows c.loop-row.invariant.1
