use Rattle.std.proofs.Common.{◌≡◌, drop}
use Rattle.fort_typing_call.specs.Fitting.{contained}
use Rattle.fort_typing_call.proofs.fitting.contained.Given as goal

abbrev pub invariant-loop-ty : goal.invariant-loop-ty
invariant-loop-ty l =
    contained l.types l.parameters l.others ≡ contained (drop l.ty-index l.types) l.rest l.behind
