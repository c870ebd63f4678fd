use Rattle.fort_threads.proofs.Lives.{each_lives_once}
use Rattle.fort_threads.proofs.each_lives_once.Goals as goal

pub returns : goal.returns
returns c = each_lives_once
