use Rattle.std.proofs.Common.{◌≤◌, subst}
use Rattle.fort_sound_tables.proofs.Members.{shapes_more, shapes_past}
use Rattle.fort_sound_tables.proofs.apart.shapes_leave.Goals as goal

pub loop-i-preserved : goal.loop-i-preserved
loop-i-preserved c =
    shapes_more c.args.program.now c.args.x.now c.loop-i.i c.loop-i.invariant
    (c.shape_leaves.ensures c.if-not-shape_leaves.false)

pub returns : goal.returns
returns c ok =
    shapes_past c.args.program.now c.args.x.now c.loop-i.i
    (subst (λ n. n ≤ c.loop-i.i) c.len-i-end.ensures c.loop-i-test.false) c.loop-i.invariant
