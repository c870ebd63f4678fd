use Rattle.std.proofs.Common.{◌≡◌, ◌++◌, drop}
use Rattle.std.specs.List.{flat_map}
use Rattle.fort_elab_meaning.specs.Shapes.{types_by}
use Rattle.fort_elab_shapes.proofs.store.add_object_types.Given as goal

abbrev pub invariant-loop-shape : goal.invariant-loop-shape
invariant-loop-shape l =
    l.types ++ flat_map types_by (drop l.shape-index l.shapes)
    ≡ l.fn.types ++ flat_map types_by l.shapes
