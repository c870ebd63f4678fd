use Rattle.fort_elab_law_written.proofs.laws.program_is_written.Goals as goal
use Rattle.fort_elab_law_written.proofs.Program.{program_is_written}

pub returns : goal.returns
returns c = program_is_written
