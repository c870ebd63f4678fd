use Rattle.std.proofs.Common.{◌≡◌, ◌++◌, drop, map}
use Rattle.fort_elab_meaning.specs.Shapes.{core_field}
use Rattle.fort_elab_shapes.proofs.made_of.core_fields.Given as goal

abbrev pub invariant-loop-field : goal.invariant-loop-field
invariant-loop-field l =
    l.list ++ map (core_field l.texts l.initials l.id) (drop l.field-index l.field-items)
    ≡ map (core_field l.texts l.initials l.id) l.field-items
