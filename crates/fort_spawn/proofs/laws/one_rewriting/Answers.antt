use Rattle.fort_spawn.proofs.One.{one}
use Rattle.fort_spawn.proofs.laws.one_rewriting.Goals as goal

pub returns : goal.returns
returns c = one
