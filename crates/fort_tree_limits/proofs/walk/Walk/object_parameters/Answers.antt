use Rattle.fort_tree_limits.proofs.EarliestLaws.{earliest_none}
use Rattle.fort_tree_limits.proofs.walk.Walk.object_parameters.Goals as goal

pub returns-in-None : goal.returns-in-None
returns-in-None c = rw (c.in-None.is, earliest_none)
