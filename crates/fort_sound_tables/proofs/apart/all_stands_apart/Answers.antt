use Rattle.std.proofs.Common.{subst}
use Rattle.std.specs.List.{AllByRecursion}
use Rattle.fort_sound_tables.specs.Threads.{LeavesPair}
use Rattle.fort_sound_tables.proofs.apart.all_stands_apart.Goals as goal

pub returns : goal.returns
returns c ok = record {
  sets = c.sets_leave.ensures c.if-not-sets_leave.false;
  shapes = c.shapes_leave.ensures c.if-not-shapes_leave.false;
  opening = subst (λ es. AllByRecursion (LeavesPair c.args.program.now c.args.x.now) es)
      c.as_slice.ensures (c.opening_leaves.ensures ok);
}
