use Rattle.fort_threads_law_queue.proofs.Taken.{each_wait_ends}
use Rattle.fort_threads_law_queue.proofs.each_wait_ends.Goals as goal

pub returns : goal.returns
returns c = each_wait_ends
