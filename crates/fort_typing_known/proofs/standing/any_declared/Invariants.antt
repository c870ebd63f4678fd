use Rattle.std.proofs.Common.{◌≡◌, drop}
use Rattle.fort_typing_known.specs.Names.{any_declared}
use Rattle.fort_typing_known.proofs.standing.any_declared.Given as goal

abbrev pub invariant-loop-member : goal.invariant-loop-member
invariant-loop-member l = any_declared l.members ≡ any_declared (drop l.member-index l.members)
