use Rattle.fort_machine_law_worked.proofs.TwoThreadsRun.{prints_left_first}
use Rattle.fort_machine_law_worked.proofs.two_threads.prints_left_first.Goals as goal

pub returns : goal.returns
returns c = prints_left_first
