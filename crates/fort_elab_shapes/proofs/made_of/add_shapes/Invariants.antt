use Rattle.std.proofs.Common.{◌≡◌, ◌++◌, drop}
use Rattle.fort_types_builtin.specs.declared.types.TheConstants.{TYPE_COUNT}
use Rattle.fort_elab_meaning.specs.Shapes.{own_shapes}
use Rattle.fort_elab_shapes.proofs.made_of.add_shapes.Given as goal

abbrev pub invariant-loop-at : goal.invariant-loop-at
invariant-loop-at l =
    l.list ++ own_shapes l.texts l.initials l.sets l.at l.next (drop l.at l.objects)
    (drop l.at l.fields)
    ≡ l.fn.list
    ++ own_shapes l.texts l.initials l.sets TYPE_COUNT l.base (drop TYPE_COUNT l.objects)
    (drop TYPE_COUNT l.fields)
