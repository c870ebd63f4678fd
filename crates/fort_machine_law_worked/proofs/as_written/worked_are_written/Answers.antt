use Rattle.fort_machine_law_worked.proofs.as_written.worked_are_written.Goals as goal
use Rattle.fort_machine_law_worked.proofs.AsWritten.{worked_are_written}

pub returns : goal.returns
returns c = worked_are_written
