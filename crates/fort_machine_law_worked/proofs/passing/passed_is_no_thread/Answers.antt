use Rattle.fort_machine_law_worked.proofs.PassingRun.{passed_is_no_thread}
use Rattle.fort_machine_law_worked.proofs.passing.passed_is_no_thread.Goals as goal

pub returns : goal.returns
returns c = passed_is_no_thread
