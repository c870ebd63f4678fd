use Rattle.fort_hall_law_plays.proofs.Plays.{plays_go_on}
use Rattle.fort_hall_law_plays.proofs.plays_go_on.Goals as goal

pub returns : goal.returns
returns c = plays_go_on
