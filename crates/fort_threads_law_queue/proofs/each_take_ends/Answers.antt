use Rattle.fort_threads_law_queue.proofs.Taken.{each_take_ends}
use Rattle.fort_threads_law_queue.proofs.each_take_ends.Goals as goal

pub returns : goal.returns
returns c = each_take_ends
