use Rattle.std.proofs.Common.{◌≡◌}
use Rattle.std.specs.Prelude.{replicate}
use Rattle.fort_types.specs.Square.{blank_row}
use Rattle.fort_types.proofs.square.Square.new.Given as goal

abbrev pub invariant-loop-i : goal.invariant-loop-i
invariant-loop-i l = l.rows.items ≡ replicate l.i (blank_row l.size)
