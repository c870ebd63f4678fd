use Rattle.fort_threads_law_whole.proofs.ServeFirst.{first_goes_on}
use Rattle.fort_threads_law_whole.proofs.first_goes_on.Goals as goal

pub returns : goal.returns
returns c = first_goes_on
