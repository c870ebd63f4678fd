use Rattle.fort_threads.proofs.Lives.{few_inside}
use Rattle.fort_threads.proofs.few_inside.Goals as goal

pub returns : goal.returns
returns c = few_inside
