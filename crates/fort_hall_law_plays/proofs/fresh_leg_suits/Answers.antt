use Rattle.fort_hall_law_plays.proofs.Plays.{fresh_leg_suits}
use Rattle.fort_hall_law_plays.proofs.fresh_leg_suits.Goals as goal

pub returns : goal.returns
returns c = fresh_leg_suits
