use Rattle.fort_link_units.proofs.ApiLimits.{head_walks}
use Rattle.fort_link_units.proofs.limits.Walk.head.Goals as goal

pub returns : goal.returns
returns c = rw head_walks (cc)
