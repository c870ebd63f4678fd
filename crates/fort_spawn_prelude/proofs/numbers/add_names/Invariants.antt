use Rattle.std.proofs.Common.{◌≡◌, map, take}
use Rattle.fort_spawn_prelude.specs.Table.{entry_of}
use Rattle.fort_spawn_prelude.specs.Numbers.{extended_by}
use Rattle.fort_spawn_prelude.proofs.numbers.add_names.Given as goal

abbrev pub invariant-loop-i : goal.invariant-loop-i
invariant-loop-i l = l.names ≡ extended_by l.fn.names (map entry_of (take l.i l.rows))
