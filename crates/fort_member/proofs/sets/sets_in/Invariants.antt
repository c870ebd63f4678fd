use Rattle.std.proofs.Common.{◌≡◌}
use Rattle.fort_member.specs.Sets.{sets_of}
use Rattle.fort_member.proofs.sets.sets_in.Given as goal

abbrev pub invariant-loop-entry : goal.invariant-loop-entry
invariant-loop-entry l = l.sets.items ≡ sets_of l.yielded
