use Rattle.fort_threads_law_whole.proofs.ThreadPicks.{first_thread_goes_on}
use Rattle.fort_threads_law_whole.proofs.first_thread_goes_on.Goals as goal

pub returns : goal.returns
returns c = first_thread_goes_on
