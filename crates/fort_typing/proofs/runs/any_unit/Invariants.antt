use Rattle.std.proofs.Common.{◌≡◌, drop}
use Rattle.fort_typing_meaning.specs.Whole.{any_unit}
use Rattle.fort_typing.proofs.runs.any_unit.Given as goal

abbrev pub invariant-loop-member : goal.invariant-loop-member
invariant-loop-member l = any_unit l.members ≡ any_unit (drop l.member-index l.members)
