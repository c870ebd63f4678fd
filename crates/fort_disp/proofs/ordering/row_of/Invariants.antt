use Rattle.std.proofs.Common.{take}
use Rattle.fort_disp.specs.Rows.{IsRow}
use Rattle.fort_disp.proofs.ordering.row_of.Given as goal

abbrev pub invariant-loop-number : goal.invariant-loop-number
invariant-loop-number l = IsRow l.program (take l.number-index l.members) l.row.items
