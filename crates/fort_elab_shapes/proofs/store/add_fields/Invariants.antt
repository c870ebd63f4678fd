use Rattle.std.proofs.Common.{◌≡◌, ◌++◌, drop}
use Rattle.fort_elab_meaning.specs.Shapes.{fields_from}
use Rattle.fort_elab_shapes.proofs.store.add_fields.Given as goal

abbrev pub invariant-loop-field : goal.invariant-loop-field
invariant-loop-field l =
    l.opening ++ fields_from l.place (drop l.field-index l.fields)
    ≡ l.fn.opening ++ fields_from l.base l.fields
