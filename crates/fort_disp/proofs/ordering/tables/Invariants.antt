use Rattle.std.proofs.Common.{take}
use Rattle.fort_disp.specs.Rows.{AreRows}
use Rattle.fort_disp.proofs.ordering.tables.Given as goal

abbrev pub invariant-loop-set : goal.invariant-loop-set
invariant-loop-set l = AreRows l.program (take l.set-index l.program.sets) l.rows
