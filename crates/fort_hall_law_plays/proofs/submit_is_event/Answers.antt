use Rattle.fort_hall_law_plays.proofs.Plays.{submit_is_event}
use Rattle.fort_hall_law_plays.proofs.submit_is_event.Goals as goal

pub returns : goal.returns
returns c = submit_is_event
