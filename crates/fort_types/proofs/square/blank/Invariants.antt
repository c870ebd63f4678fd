use Rattle.std.proofs.Common.{◌≡◌}
use Rattle.fort_types.specs.Square.{blank_row}
use Rattle.fort_types.proofs.square.blank.Given as goal

abbrev pub invariant-loop-i : goal.invariant-loop-i
invariant-loop-i l = l.row ≡ blank_row l.i
