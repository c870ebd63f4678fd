use Rattle.fort_threads_law_whole.proofs.Early.{early_goes_on}
use Rattle.fort_threads_law_whole.proofs.early_goes_on.Goals as goal

pub returns : goal.returns
returns c = early_goes_on
