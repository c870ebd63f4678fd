use Rattle.std.proofs.Common.{◌≡◌, ◌++◌, drop}
use Rattle.fort_typing_call.specs.Fitting.{widened_types}
use Rattle.fort_typing_call.proofs.fitting.widened_types.Given as goal

abbrev pub invariant-loop-ty : goal.invariant-loop-ty
invariant-loop-ty l =
    widened_types l.types l.parameters ≡ l.list ++ widened_types (drop l.ty-index l.types) l.rest
