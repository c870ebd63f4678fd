use Rattle.fort_spawn.proofs.Apart.{apart}
use Rattle.fort_spawn.proofs.laws.rewritten_stands_apart.Goals as goal

pub returns : goal.returns
returns c = apart
