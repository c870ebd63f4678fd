use Rattle.fort_threads_law_whole.proofs.Begun.{all_begins}
use Rattle.fort_threads_law_whole.proofs.all_begins.Goals as goal

pub returns : goal.returns
returns c = all_begins
