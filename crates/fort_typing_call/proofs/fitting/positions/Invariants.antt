use Rattle.std.proofs.Common.{◌≡◌, ◌++◌, drop}
use Rattle.fort_typing_call.specs.Fitting.{positions}
use Rattle.fort_typing_call.proofs.fitting.positions.Given as goal

abbrev pub invariant-loop-ty : goal.invariant-loop-ty
invariant-loop-ty l =
    positions l.types l.parameters ≡ l.list ++ positions (drop l.ty-index l.types) l.rest
