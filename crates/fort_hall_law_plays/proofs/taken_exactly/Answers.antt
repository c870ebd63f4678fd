use Rattle.fort_hall_law_plays.proofs.Answered.{taken_exactly}
use Rattle.fort_hall_law_plays.proofs.taken_exactly.Goals as goal

pub returns : goal.returns
returns c = taken_exactly
