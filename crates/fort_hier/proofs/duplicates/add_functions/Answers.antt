use Rattle.fort_hier.proofs.NamesWalk.{functions_first, functions_step, functions_done}
use Rattle.fort_hier.proofs.duplicates.add_functions.Goals as goal

pub loop-number-init : goal.loop-number-init
loop-number-init c = functions_first _ c.requires

pub loop-number-preserved : goal.loop-number-preserved
loop-number-preserved c =
    functions_step _ _ _ _ c.loop-number-test.true c.function_name.ensures c.in_ok-add.ensures.held
    c.loop-number.invariant

pub returns : goal.returns
returns c = functions_done _ _ c.loop-number-test.false c.loop-number.invariant
