use Rattle.fort_types.proofs.Closure.{closed_unless}
use Rattle.fort_types.proofs.closing.grown.Goals as goal

pub returns-clause-closed : goal.returns-clause-closed
returns-clause-closed c = closed_unless _ _ _ _ _ c.round.ensures.progress
