use Rattle.fort_front_law_decided.proofs.Spawned.{rewritten_each}
use Rattle.fort_front_law_decided.proofs.phases.each_is_rewritten.Goals as goal

pub returns : goal.returns
returns c = rewritten_each c.prelude_is_read.ensures
