use Rattle.std.proofs.Common.{◌≡◌, [], drop}
use Rattle.fort_elab_meaning.specs.Bodies.{parameter_names}
use Rattle.fort_elab.proofs.bodies.parameters_in_scope.Given as goal

abbrev pub invariant-loop-parameter : goal.invariant-loop-parameter
invariant-loop-parameter l =
    parameter_names l.receiver l.at (drop l.parameter-index l.parameters) l.names
    ≡ parameter_names l.receiver 0 l.parameters []
