use Rattle.fort_tree.specs.Declarations.{said_declared}
use Rattle.fort_yield.proofs.More.{one_more_entry}
use Rattle.fort_yield.proofs.declarations.put_declarations.Goals as goal

pub loop-declared-preserved : goal.loop-declared-preserved
loop-declared-preserved c =
    one_more_entry said_declared c.args.declarations.now c.loop-declared.declared-index
    c.declared-item.result c.args.out.now c.loop-declared.out c.put_declared.new.out
    c.loop-declared-test.true c.declared-item.is c.loop-declared.invariant
    c.in_ok-put_declared.ensures
