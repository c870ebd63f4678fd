use Rattle.fort_threads.proofs.Lives.{none_begins_twice}
use Rattle.fort_threads.proofs.none_begins_twice.Goals as goal

pub returns : goal.returns
returns c = none_begins_twice
