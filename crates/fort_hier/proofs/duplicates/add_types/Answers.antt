use Rattle.fort_hier.proofs.NamesWalk.{types_step, types_done}
use Rattle.fort_hier.proofs.duplicates.add_types.Goals as goal

pub loop-number-preserved : goal.loop-number-preserved
loop-number-preserved c =
    types_step _ _ _ _ c.loop-number-test.true c.type_name.ensures c.in_ok-add.ensures.held
    c.loop-number.invariant

pub returns : goal.returns
returns c = types_done _ _ c.loop-number-test.false c.loop-number.invariant
