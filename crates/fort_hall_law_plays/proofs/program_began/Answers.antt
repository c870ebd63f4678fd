use Rattle.fort_hall_law_plays.proofs.Attempts.{program_began}
use Rattle.fort_hall_law_plays.proofs.program_began.Goals as goal

pub returns : goal.returns
returns c = program_began
