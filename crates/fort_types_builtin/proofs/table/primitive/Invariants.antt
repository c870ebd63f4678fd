use Rattle.std.proofs.Common.{◌≡◌, map, drop}
use Rattle.std.specs.Prelude.{filter, slice_get}
use Rattle.fort_types_builtin.specs.Declarations.{declaration_of, has, primitive_of}
use Rattle.fort_types_builtin.proofs.table.primitive.Given as goal

abbrev pub invariant-loop-row : goal.invariant-loop-row
invariant-loop-row l =
    slice_get
    (map primitive_of
    (filter (has l.name l.width) (map declaration_of (drop l.row-index l.row-items)))) l.left
    ≡ slice_get (map primitive_of (filter (has l.name l.width) (map declaration_of l.row-items)))
    l.at
