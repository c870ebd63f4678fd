use Rattle.std.proofs.Common.{◌≡◌, take}
use Rattle.std.specs.Prelude.{map}
use Rattle.fort_core.specs.declared.term.Term as term
use Rattle.fort_hall_parts.proofs.order.at_operand.Given as goal

abbrev pub invariant-loop-operand : goal.invariant-loop-operand
invariant-loop-operand l = map term.Value l.values ≡ take l.operand-index l.operand-items
