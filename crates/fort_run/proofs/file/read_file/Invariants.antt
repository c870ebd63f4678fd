use Rattle.std.proofs.Common.{◌≡◌, ◌+◌, ◌≤◌, length, ◌-◌, vec_len}
use Rattle.fort_run.specs.Fronts.{IsFrontOf}
use Rattle.fort_run.proofs.file.read_file.Given as goal

abbrev pub invariant-loop-file : goal.invariant-loop-file
invariant-loop-file g l = record {
  front : IsFrontOf (g.F.Shelf.holding l.initial.shelf l.name) l.file;
  kept : g.F.Shelf.holding l.shelf ≡ g.F.Shelf.holding l.initial.shelf;
  calm : g.F.Shelf.faults l.shelf ≡ g.F.Shelf.faults l.initial.shelf;
  within : length l.file ≤ l.limit + 1;
  room : vec_len l.piece ≡ 65536;
}

abbrev pub decreases-loop-file : goal.decreases-loop-file
decreases-loop-file g l = (l.limit + 1) - length l.file
