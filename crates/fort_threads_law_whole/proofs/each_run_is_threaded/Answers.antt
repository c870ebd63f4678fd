use Rattle.fort_threads_law_whole.proofs.Threaded.{each_run_is_threaded}
use Rattle.fort_threads_law_whole.proofs.each_run_is_threaded.Goals as goal

pub returns : goal.returns
returns c = each_run_is_threaded
