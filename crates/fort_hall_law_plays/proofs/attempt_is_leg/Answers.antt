use Rattle.fort_hall_law_plays.proofs.Plays.{attempt_is_leg}
use Rattle.fort_hall_law_plays.proofs.attempt_is_leg.Goals as goal

pub returns : goal.returns
returns c = attempt_is_leg
