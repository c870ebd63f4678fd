use Rattle.fort_hall_law_plays.proofs.Plays.{plays_keep}
use Rattle.fort_hall_law_plays.proofs.plays_keep.Goals as goal

pub returns : goal.returns
returns c = plays_keep
