use Rattle.std.proofs.Common.{◌≡◌, take}
use Rattle.fort_spawn_prelude.proofs.reading.copied.Given as goal

abbrev pub invariant-loop-name : goal.invariant-loop-name
invariant-loop-name l = l.copy ≡ take l.name-index l.names
