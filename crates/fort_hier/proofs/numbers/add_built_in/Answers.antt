use Rattle.fort_hier.proofs.NumberLaws.{built_in_step, built_in_done}
use Rattle.fort_hier.proofs.numbers.add_built_in.Goals as goal

pub loop-number-preserved : goal.loop-number-preserved
loop-number-preserved c =
    built_in_step _ _ _ _ c.loop-number-test.true c.type_name.ensures c.in_ok-add.ensures
    c.loop-number.invariant

pub returns : goal.returns
returns c = built_in_done _ _ c.loop-number-test.false c.loop-number.invariant
