use Rattle.std.proofs.Common.{◌≡◌, ◌+◌, take}
use Rattle.fort_run.specs.Reply.{AreFiles, file_limit, size_of}
use Rattle.fort_run.proofs.link.read_files.Given as goal

abbrev pub invariant-loop-name : goal.invariant-loop-name
invariant-loop-name g l = record {
  read : AreFiles (g.F.Shelf.holding l.initial.shelf) (take l.name-index l.names) l.files;
  kept : g.F.Shelf.holding l.shelf ≡ g.F.Shelf.holding l.initial.shelf;
  calm : g.F.Shelf.faults l.shelf ≡ g.F.Shelf.faults l.initial.shelf;
  room : size_of l.files + l.room ≡ file_limit;
}
