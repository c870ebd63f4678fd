use Rattle.std.proofs.Common.{◌≡◌, map, take}
use Rattle.fort_types_builtin.specs.Declarations.{ty_of}
use Rattle.fort_types_builtin.proofs.table.types_of.Given as goal

abbrev pub invariant-loop-parameter : goal.invariant-loop-parameter
invariant-loop-parameter l = l.types ≡ map ty_of (take l.parameter-index l.parameters)
