use Rattle.fort_hall_law_plays.proofs.Plays.{play_is_run}
use Rattle.fort_hall_law_plays.proofs.play_is_run.Goals as goal

pub returns : goal.returns
returns c = play_is_run
