use Rattle.std.proofs.Common.{◌≡◌, map, take}
use Rattle.fort_types_builtin.specs.Declarations.{declaration_of}
use Rattle.fort_types_builtin.proofs.table.declarations.Given as goal

abbrev pub invariant-loop-row : goal.invariant-loop-row
invariant-loop-row l = l.list ≡ map declaration_of (take l.row-index l.row-items)
