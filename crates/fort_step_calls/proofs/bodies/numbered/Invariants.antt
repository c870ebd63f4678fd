use Rattle.std.proofs.Common.{◌≡◌, ◌++◌, drop}
use Rattle.fort_machine.specs.Calls.{by_number}
use Rattle.fort_step_calls.proofs.bodies.numbered.Given as goal

abbrev pub invariant-loop-value : goal.invariant-loop-value
invariant-loop-value l =
    l.pairs ++ by_number l.number (drop l.value-index l.value-items) ≡ by_number 0 l.value-items
