use Rattle.std.proofs.Common.{refl, arith}
use Rattle.fort_run.proofs.Fronts.{front_empty, front_long}
use Rattle.fort_run.proofs.file.read_file.Goals as goal

pub loop-file-init : goal.loop-file-init
loop-file-init g c = record {
  front = rw c.new-file.ensures (front_empty (g.F.Shelf.holding c.args.shelf.now c.args.name.now));
  kept = refl;
  calm = refl;
  within = rw c.new-file.ensures (omega arith);
  room = c.in_ok-piece.ensures;
}

pub returns-clause-stops : goal.returns-clause-stops
returns-clause-stops g c = (
  c.loop-file.invariant.calm,
  front_long c.args.limit (g.F.Shelf.holding c.args.shelf.now c.args.name.now)
      c.loop-file.file c.loop-file.invariant.front (omega arith),
)
