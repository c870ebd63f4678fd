use Rattle.std.proofs.Common.{arith}
use Rattle.fort_types.proofs.Closure.{round_step, round_done}
use Rattle.fort_types.proofs.closing.round.Goals as goal

pub loop-a-preserved : goal.loop-a-preserved
loop-a-preserved c = record {
  holds = c.grow_row-grown.ensures.holds;
  progress = round_step _ _ _ _ _ _ _ c.loop-a.invariant.progress c.grow_row-grown.ensures.progress;
}

pub returns-clause-progress : goal.returns-clause-progress
returns-clause-progress c = round_done _ _ _ _ _ _ (omega arith) c.loop-a.invariant.progress
