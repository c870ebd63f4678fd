use Rattle.std.proofs.Common.{map, take}
use Rattle.fort_types_builtin.specs.Types.{type_spellings}
use Rattle.fort_hier.specs.Names.{type_called}
use Rattle.fort_hier.specs.Seen.{HoldsSeen}
use Rattle.fort_hier.proofs.duplicates.add_types.Given as goal

abbrev pub invariant-loop-number : goal.invariant-loop-number
invariant-loop-number l = HoldsSeen (map type_called (take l.number type_spellings)) l.seen
