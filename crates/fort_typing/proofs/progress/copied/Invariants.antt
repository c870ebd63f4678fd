use Rattle.std.proofs.Common.{◌≡◌, take}
use Rattle.fort_typing.proofs.progress.copied.Given as goal

abbrev pub invariant-loop-parameter : goal.invariant-loop-parameter
invariant-loop-parameter l = l.list ≡ take l.parameter-index l.parameters
