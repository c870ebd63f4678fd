use Rattle.fort_ops.proofs.precedence.pairs_have_no_cycle.Goals as goal
use Rattle.fort_ops.proofs.Ranks.{rank_falls, no_cycle}

pub returns-clause-falls : goal.returns-clause-falls
returns-clause-falls c = rank_falls

pub returns-clause-no_cycle : goal.returns-clause-no_cycle
returns-clause-no_cycle c = no_cycle
