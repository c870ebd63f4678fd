use Rattle.fort_machine_law_worked.proofs.LetterRun.{value_is_no_thread}
use Rattle.fort_machine_law_worked.proofs.letter.value_is_no_thread.Goals as goal

pub returns : goal.returns
returns c = value_is_no_thread
