use Rattle.std.proofs.Common.{◌≡◌, take, map}
use Rattle.fort_typing_rules.specs.Types.{parameter_type}
use Rattle.fort_typing_build.proofs.copies.parameter_types.Given as goal

abbrev pub invariant-loop-parameter : goal.invariant-loop-parameter
invariant-loop-parameter l = l.types ≡ map parameter_type (take l.parameter-index l.parameters)
