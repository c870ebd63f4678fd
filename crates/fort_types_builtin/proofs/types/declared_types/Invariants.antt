use Rattle.std.proofs.Common.{◌≡◌, map, take}
use Rattle.fort_types_builtin.specs.Types.{declared_by_row, row_of}
use Rattle.fort_types_builtin.proofs.types.declared_types.Given as goal

abbrev pub invariant-loop-row : goal.invariant-loop-row
invariant-loop-row l = l.types ≡ map declared_by_row (map row_of (take l.row-index l.row-items))
