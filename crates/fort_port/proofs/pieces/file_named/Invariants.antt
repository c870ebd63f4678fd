use Rattle.std.proofs.Common.{◌≡◌, drop}
use Rattle.fort_port.specs.InMemory.{found}
use Rattle.fort_port.proofs.pieces.file_named.Given as goal

abbrev pub invariant-loop-file : goal.invariant-loop-file
invariant-loop-file l = found l.file-items l.name ≡ found (drop l.file-index l.file-items) l.name
