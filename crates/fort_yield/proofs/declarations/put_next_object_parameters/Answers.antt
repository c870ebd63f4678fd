use Rattle.fort_tree.specs.Declarations.{said_next_object_parameter}
use Rattle.fort_yield.proofs.More.{one_more}
use Rattle.fort_yield.proofs.declarations.put_next_object_parameters.Goals as goal

pub loop-next-preserved : goal.loop-next-preserved
loop-next-preserved c =
    one_more said_next_object_parameter c.args.others.now c.loop-next.next-index c.next-item.result
    c.args.out.now c.loop-next.out c.put_next_object_parameter.new.out c.loop-next-test.true
    c.next-item.is c.loop-next.invariant c.in_ok-put_next_object_parameter.ensures
