use Rattle.std.proofs.Common.{◌≡◌, drop}
use Rattle.fort_step_table.specs.Operands.{after_values, standing_in_order}
use Rattle.fort_step_table.proofs.operands.operands_from.Given as goal

abbrev pub invariant-loop-at : goal.invariant-loop-at
invariant-loop-at l =
    after_values l.values (standing_in_order (drop l.at l.operands))
    ≡ after_values l.fn.values (standing_in_order (drop l.fn.from l.operands))
