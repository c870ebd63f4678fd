use Rattle.fort_threads.proofs.Lives.{first_lives_once}
use Rattle.fort_threads.proofs.first_lives_once.Goals as goal

pub returns : goal.returns
returns c = first_lives_once
