use Rattle.std.proofs.Common.{◌++◌, map, take}
use Rattle.fort_types_builtin.specs.Declarations.{function_spellings}
use Rattle.fort_types_builtin.specs.Types.{type_spellings}
use Rattle.fort_hier.specs.Names.{type_called, function_called}
use Rattle.fort_hier.specs.Seen.{HoldsSeen}
use Rattle.fort_hier.proofs.duplicates.add_functions.Given as goal

abbrev pub invariant-loop-number : goal.invariant-loop-number
invariant-loop-number l =
    HoldsSeen
    (map type_called type_spellings ++ map function_called (take l.number function_spellings))
    l.seen
