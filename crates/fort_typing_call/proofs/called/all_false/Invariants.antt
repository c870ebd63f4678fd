use Rattle.std.proofs.Common.{◌≡◌, false, replicate}
use Rattle.fort_typing_call.proofs.called.all_false.Given as goal

abbrev pub invariant-loop-number : goal.invariant-loop-number
invariant-loop-number l = l.list ≡ replicate l.number false
