use Rattle.std.proofs.Common.{◌≡◌, take}
use Rattle.fort_typing_build.proofs.copies.parameters.Given as goal

abbrev pub invariant-loop-parameter : goal.invariant-loop-parameter
invariant-loop-parameter l = l.copies ≡ take l.parameter-index l.parameters
