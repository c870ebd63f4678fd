use Rattle.std.proofs.Common.{◌≡◌, ◌++◌, drop}
use Rattle.std.specs.List.{flat_map}
use Rattle.fort_elab_meaning.specs.Shapes.{held_by}
use Rattle.fort_elab_shapes.proofs.store.add_objects.Given as goal

abbrev pub invariant-loop-shape : goal.invariant-loop-shape
invariant-loop-shape l =
    l.opening ++ flat_map held_by (drop l.shape-index l.shapes)
    ≡ l.fn.opening ++ flat_map held_by l.shapes
