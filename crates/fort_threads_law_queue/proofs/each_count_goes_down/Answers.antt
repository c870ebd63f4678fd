use Rattle.fort_threads_law_queue.proofs.Taken.{each_count_goes_down}
use Rattle.fort_threads_law_queue.proofs.each_count_goes_down.Goals as goal

pub returns : goal.returns
returns c = each_count_goes_down
