use Rattle.std.proofs.Common.{◌≡◌, take}
use Rattle.fort_step_calls.proofs.objects.fields.Given as goal

abbrev pub invariant-loop-value : goal.invariant-loop-value
invariant-loop-value l = l.all ≡ take l.value-index l.value-items
