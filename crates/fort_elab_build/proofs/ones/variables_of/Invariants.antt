use Rattle.std.proofs.Common.{◌≡◌, ◌++◌, drop, map}
use Rattle.fort_elab_meaning.specs.Items.{parameter, typed_variables}
use Rattle.fort_elab_build.proofs.ones.variables_of.Given as goal

abbrev pub invariant-loop-parameter : goal.invariant-loop-parameter
invariant-loop-parameter l =
    l.list ++ typed_variables l.number (map parameter (drop l.parameter-index l.parameters))
    ≡ typed_variables l.first (map parameter l.parameters)
