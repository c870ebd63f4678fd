use Rattle.std.proofs.Common.{refl}
use Rattle.fort_walk_stretch.proofs.in_turn.passed.Goals as goal

pub returns : goal.returns
returns c = (c.requires, refl)
