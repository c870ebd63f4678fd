use Rattle.std.proofs.Common.{◌≡◌, ◌++◌, drop}
use Rattle.fort_elab_meaning.specs.Shapes.{variable_types}
use Rattle.fort_elab_shapes.proofs.store.opening_types.Given as goal

abbrev pub invariant-loop-variable : goal.invariant-loop-variable
invariant-loop-variable l =
    l.types ++ variable_types l.place (drop l.variable-index l.variables)
    ≡ variable_types 0 l.variables
