use Rattle.std.proofs.Common.{sym, subst}
use Rattle.std.specs.List.{AllByRecursion}
use Rattle.fort_sound_tables.specs.Threads.{LeavesField}
use Rattle.fort_sound_tables.proofs.Members.{shape_by}
use Rattle.fort_sound_tables.proofs.apart.shape_leaves.Goals as goal

pub returns-then-constants_leave : goal.returns-then-constants_leave
returns-then-constants_leave c ok =
    shape_by c.args.program.now c.args.x.now c.args.«at» c.in-Some.shape.now
    (sym c.in-Some.ensures.value)
    (subst (λ fs. AllByRecursion (LeavesField c.args.program.now c.args.x.now) fs)
    c.as_slice.ensures (c.constants_leave.ensures c.if-constants_leave.true))
    (c.single_leaves.ensures ok)
