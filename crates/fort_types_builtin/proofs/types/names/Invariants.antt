use Rattle.std.proofs.Common.{◌≡◌, map, take}
use Rattle.fort_types_builtin.specs.Types.{row_of, type_name_of}
use Rattle.fort_types_builtin.proofs.types.names.Given as goal

abbrev pub invariant-loop-row : goal.invariant-loop-row
invariant-loop-row l = l.names ≡ map type_name_of (map row_of (take l.row-index l.row-items))
