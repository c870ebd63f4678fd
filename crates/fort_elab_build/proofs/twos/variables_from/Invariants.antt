use Rattle.std.proofs.Common.{◌≡◌, ◌++◌, drop}
use Rattle.fort_elab_meaning.specs.Items.{typed_variables}
use Rattle.fort_elab_build.proofs.twos.variables_from.Given as goal

abbrev pub invariant-loop-name : goal.invariant-loop-name
invariant-loop-name l =
    l.list ++ typed_variables l.number (drop l.name-index l.names) ≡ typed_variables l.first l.names
