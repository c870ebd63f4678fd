use Rattle.std.proofs.Common.{◌≡◌, drop}
use Rattle.fort_typing_known.specs.Read.{facts}
use Rattle.fort_typing_call.specs.Fitting.{all_suit}
use Rattle.fort_typing_call.proofs.fitting.all_suit.Given as goal

abbrev pub invariant-loop-ty : goal.invariant-loop-ty
invariant-loop-ty l =
    all_suit (facts l.known) l.types l.parameters
    ≡ all_suit (facts l.known) (drop l.ty-index l.types) l.rest
