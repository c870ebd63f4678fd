use Rattle.std.proofs.Common.{◌≡◌, ◌++◌, drop}
use Rattle.fort_elab_meaning.specs.Shapes.{variables_from}
use Rattle.fort_elab_shapes.proofs.store.opening.Given as goal

abbrev pub invariant-loop-variable : goal.invariant-loop-variable
invariant-loop-variable l =
    l.opening ++ variables_from l.texts l.initials l.place (drop l.variable-index l.variables)
    ≡ variables_from l.texts l.initials 0 l.variables
