use Rattle.std.proofs.Common.{take}
use Rattle.fort_link.specs.Reading.{HasRead}
use Rattle.fort_link.proofs.reading.read_files.Given as goal

abbrev pub invariant-loop-i : goal.invariant-loop-i
invariant-loop-i l = HasRead (take l.i l.files) l.read
