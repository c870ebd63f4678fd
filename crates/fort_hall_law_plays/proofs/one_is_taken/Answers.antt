use Rattle.fort_hall_law_plays.proofs.Worked.{one_is_taken}
use Rattle.fort_hall_law_plays.proofs.one_is_taken.Goals as goal

pub returns : goal.returns
returns c = one_is_taken
