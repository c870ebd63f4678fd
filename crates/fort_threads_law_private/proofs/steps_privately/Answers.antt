use Rattle.fort_threads_law_private.proofs.Leaving.{steps_privately}
use Rattle.fort_threads_law_private.proofs.steps_privately.Goals as goal

pub returns : goal.returns
returns c = steps_privately
