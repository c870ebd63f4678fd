use Rattle.fort_hall_law_plays.proofs.Worked.{attempt_goes_in}
use Rattle.fort_hall_law_plays.proofs.attempt_goes_in.Goals as goal

pub returns : goal.returns
returns c = attempt_goes_in
