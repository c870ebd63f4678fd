use Rattle.fort_machine_law_worked.proofs.TwoThreadsRun.{finished_is_no_thread}
use Rattle.fort_machine_law_worked.proofs.two_threads.finished_is_no_thread.Goals as goal

pub returns : goal.returns
returns c = finished_is_no_thread
