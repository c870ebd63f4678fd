use Rattle.std.proofs.Common.{◌≡◌, ◌++◌, drop}
use Rattle.fort_elab_meaning.specs.Shapes.{field_types}
use Rattle.fort_elab_shapes.proofs.store.add_field_types.Given as goal

abbrev pub invariant-loop-field : goal.invariant-loop-field
invariant-loop-field l =
    l.types ++ field_types l.place (drop l.field-index l.fields)
    ≡ l.fn.types ++ field_types l.base l.fields
