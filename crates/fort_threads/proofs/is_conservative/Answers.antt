use Rattle.fort_threads.proofs.Conservative.{is_conservative}
use Rattle.fort_threads.proofs.is_conservative.Goals as goal

pub returns : goal.returns
returns c = is_conservative
