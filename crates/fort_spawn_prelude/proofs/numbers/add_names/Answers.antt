use Rattle.std.proofs.Common.{◌∙◌}
use Rattle.fort_spawn_prelude.specs.Table.{entry_of}
use Rattle.fort_spawn_prelude.proofs.Rows.{name_added}
use Rattle.fort_spawn_prelude.proofs.numbers.add_names.Goals as goal

pub loop-i-preserved : goal.loop-i-preserved
loop-i-preserved c =
    name_added entry_of c.args.names.now _ _ c.args.rows.now c.loop-i.i _ c.loop-i-test.true
    c.loop-i.invariant c.in_ok-add_row.ensures
