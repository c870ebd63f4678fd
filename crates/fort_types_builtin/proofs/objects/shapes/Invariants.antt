use Rattle.std.proofs.Common.{◌≡◌, ◌++◌, ◌+◌, ◌≤◌, drop, map}
use Rattle.fort_types_builtin.specs.Types.{row_of}
use Rattle.fort_types_builtin.specs.Objects.{shapes_of}
use Rattle.fort_types_builtin.proofs.objects.shapes.Given as goal

abbrev pub invariant-loop-row : goal.invariant-loop-row
invariant-loop-row l = (l.place ≤ l.fn.first.0 + l.row-index)
    × (l.shapes ++ shapes_of (map row_of (drop l.row-index l.row-items)) l.place
    ≡ shapes_of (map row_of l.row-items) l.fn.first.0)
