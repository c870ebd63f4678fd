use Rattle.std.proofs.Common.{◌≡◌, ◌++◌, drop}
use Rattle.fort_machine.specs.Scopes.{variables}
use Rattle.fort_step_closed.proofs.names.with_typed.Given as goal

abbrev pub invariant-loop-pair : goal.invariant-loop-pair
invariant-loop-pair l = l.all ++ variables (drop l.pair-index l.pair-items) ≡ variables l.pair-items
