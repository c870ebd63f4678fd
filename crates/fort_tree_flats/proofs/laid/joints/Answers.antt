use Rattle.fort_tree_flats.proofs.Standing.{one_more}
use Rattle.fort_tree_flats.proofs.laid.joints.Goals as goal

pub loop-part-preserved : goal.loop-part-preserved
loop-part-preserved c =
    one_more c.args.parts.now c.loop-part.part-index c.part-item.result c.loop-part.joints
    c.push.new.self c.joint.result c.loop-part-test.true c.part-item.is c.loop-part.invariant
    c.in_ok-push.ensures.ok c.joint.ensures
