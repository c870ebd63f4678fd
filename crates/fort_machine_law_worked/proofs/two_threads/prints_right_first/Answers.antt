use Rattle.fort_machine_law_worked.proofs.TwoThreadsRun.{prints_right_first}
use Rattle.fort_machine_law_worked.proofs.two_threads.prints_right_first.Goals as goal

pub returns : goal.returns
returns c = prints_right_first
