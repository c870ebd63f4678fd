use Rattle.fort_threads.proofs.Lives.{few_stand}
use Rattle.fort_threads.proofs.few_stand.Goals as goal

pub returns : goal.returns
returns c = few_stand
