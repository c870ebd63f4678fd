use Rattle.std.proofs.Common.{arith}
use Rattle.fort_types.proofs.Closure.{row_done}
use Rattle.fort_types.proofs.closing.grow_row.Goals as goal

pub returns-clause-progress : goal.returns-clause-progress
returns-clause-progress c = row_done _ _ _ _ _ _ _ (omega arith) c.loop-b.invariant.progress
